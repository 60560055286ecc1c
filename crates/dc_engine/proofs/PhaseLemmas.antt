-- The phases of a commit, one after the other.
use Rattle.std.proofs.Common.{◌≡◌, Bool, true, false, List, Option, Result, Ok, Err, map, sym, ◌∙◌, ap, subst}
use Rattle.std.specs.List.{list_all}
use Rattle.std.specs.Option.{option_map}
use Rattle.dc_path.specs.Paths.{Names}
use Rattle.dc_attrs.specs.Trees.{Tree}
use Rattle.dc_fs.specs.Rest.{Rest, SweepStops}
use Rattle.dc_fs.specs.Views.{View}
use Rattle.dc_decide.specs.Plans.{Decisions}
use Rattle.dc_commit.specs.Landing.{Landing, all_landed, is_told, land_step}
use Rattle.dc_commit.specs.Moving.{KeepsButRenames, with_rename_faults}
use Rattle.dc_commit.specs.Steps.{after}
use Rattle.dc_commit.specs.declared.moving.Moved.TheVariants as move
use Rattle.dc_commit.proofs.MoveLemmas.{same_kept}
use Rattle.dc_engine.specs.Committing.{AdjustStops, Builds, CommitStops, HasCommitted, HaveCome, IsLeft, LacksSweep, Lands, Moves, Task, TellsPath, adjusted, at_tree, done, filled, is_moved, move_in, swept, with_dirs}
use Rattle.dc_engine.specs.declared.committing.AdjustError.{AdjustError}
use Rattle.dc_engine.specs.declared.committing.BuildError.{BuildError}
use Rattle.dc_engine.specs.declared.committing.BuildError.TheVariants as build_error
use Rattle.dc_engine.specs.declared.committing.CommitError.TheVariants as commit_error
use Rattle.dc_engine.specs.declared.committing.MoveError.{MoveError}

-- ---- landing, from a view with the same tree and the same rest
module _ (landings : List Landing) (old mid new : View) (tree : mid.tree ≡ old.tree) (rest : mid.rest ≡ old.rest) where
  come_from : HaveCome landings mid new → HaveCome landings old new
  come_from h = record {
    rest = h.rest ∙ ap (swept landings) rest;
    tree = λ told. h.tree told ∙ ap (done (map land_step landings)) tree;
  }

  lacks_from : LacksSweep landings mid new → LacksSweep landings old new
  lacks_from h = record {
    rest = subst (λ (r : Rest). SweepStops (all_landed landings r) new.rest) rest h.rest;
    tree = λ told. h.tree told ∙ ap (done (map land_step landings)) tree;
  }

-- directories, and then files and the sweep
pub build_on : {X : Type 0} (place : Names) (plan : Decisions) (landings : List Landing) (old mid new : View) (r : Result X BuildError) → mid.tree ≡ with_dirs place plan old.tree → mid.rest ≡ old.rest
    → Lands landings mid new r → Builds place plan landings old new r
build_on place plan landings old mid new (Ok x) t k h = come_from landings (at_tree (with_dirs place plan old.tree) old) mid new t k h
build_on place plan landings old mid new (Err (build_error.Dirs e)) t k h = absurd h
build_on place plan landings old mid new (Err (build_error.Land e)) t k h = record {
  before = h.before;
  landing = h.landing;
  behind = h.behind;
  all = h.all;
  landed = record { rest = h.landed.rest ∙ ap (all_landed h.before) k; tree = λ told. h.landed.tree told ∙ ap (option_map (after (map land_step h.before))) t };
  stop = h.stop;
}
build_on place plan landings old mid new (Err build_error.Sweep) t k h = lacks_from landings (at_tree (with_dirs place plan old.tree) old) mid new t k h

-- ---- all phases
-- by the views before them, behind the sweep, before the move and at the end
module _ (task : Task) (old mid now : View) (built : HaveCome task.given.landings (at_tree (with_dirs task.place task.given.plan old.tree) old) mid) (rest : now.rest ≡ mid.rest) where
  rest_is : now.rest ≡ swept task.given.landings old.rest
  rest_is = rest ∙ built.rest

  pub adjust_stops : (e : AdjustError) → AdjustStops task.options.keep task.given.plan task.given.paths mid.tree now.tree e → CommitStops task old now (commit_error.Adjust e)
  adjust_stops e h = record { rest = rest_is; from = mid.tree; known = built.tree; stop = h }

  module _ (tree : now.tree ≡ adjusted task.options.keep task.given.plan task.given.paths mid.tree) where
    filled_is : list_all is_told task.given.landings ≡ true → now.tree ≡ filled task old.tree
    filled_is told = tree ∙ ap (adjusted task.options.keep task.given.plan task.given.paths) (built.tree told)

    pub commits_unmoved : is_moved task ≡ false → now.faults ≡ old.faults → HasCommitted task old now
    commits_unmoved unmoved still = record {
      rest = same_kept (swept task.given.landings old.rest) now.rest rest_is;
      tree = λ told. subst (λ (b : Bool). IsLeft b task old.tree now.tree) (sym unmoved) (filled_is told);
      quiet = λ h. (ap (λ (r : Rest). r.rename_faults) rest_is, still);
    }

    module _ (new : View) (asked : is_moved task ≡ true) (kept : KeepsButRenames now new) where
      rest_moved : new.rest ≡ with_rename_faults new.rest.rename_faults (swept task.given.landings old.rest)
      rest_moved = kept.rest ∙ ap (with_rename_faults new.rest.rename_faults) rest_is

      pub commits_moved : Moves move.Moved task.given.plan.base task.place now.tree new.tree → HasCommitted task old new
      commits_moved h = record {
        rest = rest_moved;
        tree = λ told. subst (λ (b : Bool). IsLeft b task old.tree new.tree) (sym asked) (subst (λ (o : Option Tree). Moves move.Moved task.given.plan.base task.place o new.tree) (filled_is told) h);
        quiet = λ h. let no : true ≡ false = sym asked ∙ h in absurd (cc);
      }

      pub move_stops : (e : MoveError) → Moves (move_in e) task.given.plan.base task.place now.tree new.tree → TellsPath e task.place → CommitStops task old new (commit_error.Move e)
      move_stops e h named = record {
        asked = asked;
        rest = rest_moved;
        tree = λ told. subst (λ (o : Option Tree). Moves (move_in e) task.given.plan.base task.place o new.tree) (filled_is told) h;
        named = named;
      }
