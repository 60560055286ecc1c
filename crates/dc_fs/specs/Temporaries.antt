-- The bytes of temporaries and sinks, where they are told.
use Rattle.std.specs.Prelude.{◌≡◌, ℕ, ◌+◌, ◌<◌, ◌≤◌, IfSome, Bool, true, false, List, [], ◌∷◌, ◌++◌, length, take, Option, Some, None}
use Rattle.std.specs.Option.{option_map}
use Rattle.dc_attrs.specs.Attributes.{default_file}
use Rattle.dc_attrs.specs.Trees.{Node, File, appended}
use Rattle.dc_fs.specs.declared.errors.DeskError.{DeskError}
use Rattle.dc_fs.specs.declared.errors.DeskError.TheVariants as desk_error
use Rattle.dc_fs.specs.declared.target.Mode.{Mode}
use Rattle.dc_fs.specs.declared.target.Mode.TheVariants as mode_of

-- these bytes, where they are told
abbrev pub told_if : Bool → List ℕ → Option (List ℕ)
told_if true bytes = Some bytes
told_if false bytes = None

-- the temporary at work with more bytes at its end
abbrev pub more : List ℕ → Option (Option (List ℕ)) → Option (Option (List ℕ))
more bytes current = option_map (option_map (λ old. old ++ bytes)) current

-- a front of the bytes was added to a temporary, whose bytes and size these are before and after
pub record AddsFront (bytes : List ℕ) (old : Option (Option (List ℕ))) (old_size : ℕ) (new : Option (Option (List ℕ))) (new_size : ℕ) : Type 0 where
  pub count : ℕ
  pub front : count ≤ length bytes
  pub added : new ≡ more (take count bytes) old
  pub longer : new_size ≡ old_size + count

-- what is left by an append that stops: after a fault a front of the bytes was added, after want of memory none
abbrev pub AppendStops : List ℕ → Option (Option (List ℕ)) → ℕ → Option (Option (List ℕ)) → ℕ → DeskError → Type 0
AppendStops bytes old old_size new new_size desk_error.Fault = AddsFront bytes old old_size new new_size
AppendStops bytes old old_size new new_size desk_error.Memory = (new ≡ old) × (new_size ≡ old_size)

-- where both are known, what was taken and the piece are more bytes than the sink takes
abbrev pub IsPast : Option ℕ → List ℕ → Option (List ℕ) → Type 0
IsPast limit piece old = IfSome limit (λ most. IfSome old (λ taken. most < length taken + length piece))

-- what a sink has taken of a write that stops: a front of the piece; it stops only where the piece passes the limit
pub record WriteStops (limit : Option ℕ) (piece : List ℕ) (old new : Option (List ℕ)) : Type 0 where
  pub count : ℕ
  pub front : count ≤ length piece
  pub taken : new ≡ option_map (λ old. old ++ take count piece) old
  pub past : IsPast limit piece old

-- the bytes of all parts, one after the other, where all are told
abbrev pub all_told : List (Option (List ℕ)) → Option (List ℕ)
all_told [] = Some []
all_told (None ∷ parts) = None
all_told (Some bytes ∷ parts) = option_map (λ more. bytes ++ more) (all_told parts)

-- what stands where these bytes have landed
abbrev pub landed_by : Mode → List ℕ → Option Node → Option Node
landed_by mode_of.Replace bytes old = Some (File bytes default_file)
landed_by mode_of.Extend bytes old = appended bytes old
