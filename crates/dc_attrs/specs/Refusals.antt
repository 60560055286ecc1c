-- Why a tree is not changed (POSIX.1: ENOENT, ENOTDIR, EEXIST, EISDIR, EINVAL of rename): each refusal by what stands, in its order.
use Rattle.std.specs.Prelude.{◌≡◌, ◌≢◌, Option, Some, None, [], ◌∷◌, Result, Ok, Err}
use Rattle.std.specs.Option.{option_or}
use Rattle.dc_path.specs.Paths.{Names, cut, front_of}
use Rattle.dc_attrs.specs.Trees.{Node, Dir, File, Tree, seen}
use Rattle.dc_attrs.specs.declared.shown.Seen.{Seen}
use Rattle.dc_attrs.specs.declared.shown.Seen.TheVariants as seen_as
use Rattle.dc_attrs.specs.declared.refusals.TreeError.{TreeError}
use Rattle.dc_attrs.specs.declared.refusals.TreeError.TheVariants as tree_error

-- What was answered is the refusal that was due, and Ok where none was, unless memory ran out.
abbrev pub Refuses : {X : Type 0} → Option TreeError → Result X TreeError → Type 0
Refuses why (Ok x) = why ≡ None
Refuses why (Err e) = e ≢ tree_error.Memory → why ≡ Some e

-- what must be a directory
abbrev pub refused_in : Seen → Option TreeError
refused_in seen_as.Dir = None
refused_in (seen_as.File l) = Some tree_error.NotDir
refused_in seen_as.NotDir = Some tree_error.NotDir
refused_in seen_as.Missing = Some tree_error.Missing

-- what must be there
abbrev pub refused_at : Seen → Option TreeError
refused_at seen_as.Dir = None
refused_at (seen_as.File l) = None
refused_at seen_as.NotDir = Some tree_error.NotDir
refused_at seen_as.Missing = Some tree_error.Missing

-- what must be a file
abbrev pub refused_file : Seen → Option TreeError
refused_file seen_as.Dir = Some tree_error.IsDir
refused_file (seen_as.File l) = None
refused_file seen_as.NotDir = Some tree_error.NotDir
refused_file seen_as.Missing = Some tree_error.Missing

-- nothing may stand where something new is to stand
abbrev pub refused_new : Option Node → Option TreeError → Option TreeError
refused_new None why = why
refused_new (Some n) why = Some tree_error.Exists

-- no directory may stand where a file is to stand
abbrev pub refused_over : Option Node → Option TreeError → Option TreeError
refused_over None why = why
refused_over (Some (Dir a)) why = Some tree_error.IsDir
refused_over (Some (File b a)) why = why

abbrev pub refused_root : Names → Option TreeError
refused_root [] = Some tree_error.Root
refused_root (x ∷ p) = None

-- making a directory: Exists, then Missing or NotDir of the parent
abbrev pub refused_dir : Tree → Names → Option TreeError
refused_dir t p = refused_new (t p) (refused_in (seen t (front_of p)))

-- putting a file: IsDir, then Missing or NotDir of the parent
abbrev pub refused_put : Tree → Names → Option TreeError
refused_put t p = refused_over (t p) (refused_in (seen t (front_of p)))

-- adding to a file: Missing, NotDir, IsDir
abbrev pub refused_extend : Tree → Names → Option TreeError
refused_extend t p = refused_file (seen t p)

-- removing: Root, then Missing or NotDir
abbrev pub refused_remove : Tree → Names → Option TreeError
refused_remove t p = option_or (refused_root p) (refused_at (seen t p))

abbrev pub refused_into : Option Names → Option TreeError
refused_into None = None
refused_into (Some rest) = Some tree_error.IntoItself

-- moving onto a path: Exists, IntoItself, then Missing or NotDir of the parent
abbrev pub refused_onto : Tree → Names → Names → Option TreeError
refused_onto t from to = refused_new (t to) (option_or (refused_into (cut from to)) (refused_in (seen t (front_of to))))

-- moving: Root of either, Missing or NotDir of what moves, and then what stands against the new path
abbrev pub refused_rename : Tree → Names → Names → Option TreeError
refused_rename t from to = option_or (refused_root from) (option_or (refused_root to) (option_or (refused_at (seen t from)) (refused_onto t from to)))
