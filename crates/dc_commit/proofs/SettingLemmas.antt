-- Attributes that are set fit what has them.
use Rattle.std.proofs.Common.{◌≡◌, ℕ, Bool, true, false, cond, ◌&&◌, nat_le, nat_eq, [], Option, Some, None, Result, Ok, Err, IfOk, IfSome, IsTrue, refl, sym, ap, ◌∙◌, subst}
use Rattle.std.specs.Cmp.{first_so, second_so}
use Rattle.std.specs.Option.{option_map}
use Rattle.dc_path.specs.Paths.{Names}
use Rattle.dc_attrs.specs.Attributes.{Attributes, default_file, default_dir, fits_file, fits_dir}
use Rattle.dc_attrs.specs.Fitting.{fits_at}
use Rattle.dc_attrs.specs.Keeping.{Kept, overlay}
use Rattle.dc_attrs.specs.Refusals.{refused_at}
use Rattle.dc_attrs.specs.Trees.{Tree, seen, updated, with_attrs}
use Rattle.dc_attrs.specs.declared.shown.Seen.{Seen}
use Rattle.dc_attrs.specs.declared.shown.Seen.TheVariants as seen_as
use Rattle.dc_attrs.proofs.DefaultLemmas.{default_dir_fits, default_file_fits}
use Rattle.dc_attrs.proofs.TreeLemmas.{seen_from-Dir, seen_from-File, dir_at, file_at}
use Rattle.dc_decide.specs.Plans.{Decision, IsDecision, is_folder, fits_before}
use Rattle.dc_decide.specs.declared.action.Action.{Action}
use Rattle.dc_decide.specs.declared.action.Action.TheVariants as action
use Rattle.dc_fs.specs.Answers.{Changes, WriteAnswers, is_refusal, write_error_of}
use Rattle.dc_fs.specs.declared.errors.WriteError.{WriteError}
use Rattle.dc_listing.specs.Entries.{fits_entry}
use Rattle.dc_commit.specs.Settings.{attrs_under, final_attrs, fits_as, given_or, is_kind, set_at}
use Rattle.dc_commit.specs.Steps.{Answers, StopsIn}
use Rattle.dc_commit.specs.declared.steps.StepError.{StepError}
use Rattle.dc_commit.proofs.StepLemmas.{call_stops, refusal_is}

-- ---- attributes that are laid over others
-- two numbers, each of one of two attributes
file_mix : (r b : Bool) (x y : Attributes) → fits_file x ≡ true → fits_file y ≡ true → (nat_le 1 (cond r x y).replication && nat_le 1 (cond b x y).block_size) ≡ true
file_mix true true x y h k = h
file_mix true false x y h k = rw (first_so (nat_le 1 x.replication) (nat_le 1 x.block_size) h, second_so (nat_le 1 y.replication) (nat_le 1 y.block_size) k) refl
file_mix false true x y h k = rw (first_so (nat_le 1 y.replication) (nat_le 1 y.block_size) k, second_so (nat_le 1 x.replication) (nat_le 1 x.block_size) h) refl
file_mix false false x y h k = k

dir_mix : (r b : Bool) (x y : Attributes) → fits_dir x ≡ true → fits_dir y ≡ true → (nat_eq (cond r x y).replication 0 && nat_eq (cond b x y).block_size 0) ≡ true
dir_mix true true x y h k = h
dir_mix true false x y h k = rw (first_so (nat_eq x.replication 0) (nat_eq x.block_size 0) h, second_so (nat_eq y.replication 0) (nat_eq y.block_size 0) k) refl
dir_mix false true x y h k = rw (first_so (nat_eq y.replication 0) (nat_eq y.block_size 0) k, second_so (nat_eq x.replication 0) (nat_eq x.block_size 0) h) refl
dir_mix false false x y h k = k

overlay_fits : (dir : Bool) (keep : Kept) (x y : Attributes) → fits_as dir x ≡ true → fits_as dir y ≡ true → fits_as dir (overlay keep x y) ≡ true
unfolding overlay
overlay_fits true keep x y h k = dir_mix keep.replication keep.block_size x y h k
overlay_fits false keep x y h k = file_mix keep.replication keep.block_size x y h k

before_fits : (dir : Bool) (before : Option Attributes) (other : Attributes) → fits_before dir before ≡ true → fits_as dir other ≡ true → fits_as dir (given_or before other) ≡ true
before_fits dir None other h k = k
before_fits dir (Some a) other h k = h

under_fits : (dir : Bool) (a : Action) (before : Option Attributes) → is_folder a ≡ dir → fits_before dir before ≡ true → fits_as dir (attrs_under a before) ≡ true
under_fits false action.Folder before e h = absurd (cc)
under_fits true action.Folder before e h = before_fits true before default_dir h default_dir_fits
under_fits false action.Skip before e h = before_fits false before default_file h default_file_fits
under_fits true action.Skip before e h = absurd (cc)
under_fits false action.Replace before e h = default_file_fits
under_fits true action.Replace before e h = absurd (cc)
under_fits false (action.Extend n) before e h = before_fits false before default_file h default_file_fits
under_fits true (action.Extend n) before e h = absurd (cc)

final_fits : (keep : Kept) (d : Decision) → is_folder d.action ≡ d.item.dir → IsTrue (fits_before d.item.dir d.before) → IsTrue (fits_entry d.item) → fits_as d.item.dir (final_attrs keep d) ≡ true
final_fits keep d k b e = overlay_fits d.item.dir keep d.item.attrs (attrs_under d.action d.before) e (under_fits d.item.dir d.action d.before k b)

pub final_if : {E : Type 0} (keep : Kept) (d : Decision) (r : Result Attributes E) → IfOk r (λ a. a ≡ final_attrs keep d) → IsDecision d → IsTrue (fits_entry d.item) → IfOk r (λ a. IsTrue (fits_as d.item.dir a))
final_if keep d (Ok a) h i e = ap (fits_as d.item.dir) h ∙ final_fits keep d i.kind i.fitting e
final_if keep d (Err x) h i e = tt

-- ---- what is seen takes them
kind_at : (dir : Bool) (t : Tree) (p : Names) (s : Seen) (a : Attributes) → seen t p ≡ s → is_kind dir s ≡ true → fits_as dir a ≡ true → fits_at (t p) a ≡ true
kind_at dir t p seen_as.Missing a e h f = absurd (cc)
kind_at dir t p seen_as.NotDir a e h f = absurd (cc)
kind_at false t p seen_as.Dir a e h f = absurd (cc)
kind_at true t p seen_as.Dir a e h f = let d = dir_at (t p) (seen_from-Dir t [] p e) in ap (λ o. fits_at o a) d.1 ∙ f
kind_at true t p (seen_as.File n) a e h f = absurd (cc)
kind_at false t p (seen_as.File n) a e h f = let d = file_at (t p) n (seen_from-File t [] p n e) in ap (λ o. fits_at o a) d.2 ∙ f

pub seen_fits : (dir : Bool) (told : Option Tree) (p : Names) (s : Seen) (a : Attributes) → IfSome told (λ t. s ≡ seen t p) → is_kind dir s ≡ true → IsTrue (fits_as dir a) → IfSome told (λ t. IsTrue (fits_at (t p) a))
seen_fits dir None p s a e h f = tt
seen_fits dir (Some t) p s a e h f = kind_at dir t p s a (sym e) h f

-- what is not of the kind is not seen as it
pub seen_unlike : (dir : Bool) (told : Option Tree) (p : Names) (s : Seen) → IfSome told (λ t. s ≡ seen t p) → is_kind dir s ≡ false → IfSome told (λ t. is_kind dir (seen t p) ≡ false)
seen_unlike dir None p s e h = tt
seen_unlike dir (Some t) p s e h = ap (is_kind dir) (sym e) ∙ h

-- nor is what the target refuses
absent : (dir : Bool) (s : Seen) (e : WriteError) → option_map write_error_of (refused_at s) ≡ Some e → is_kind dir s ≡ false
absent dir seen_as.Missing e h = refl
absent dir seen_as.NotDir e h = refl
absent dir seen_as.Dir e h = absurd (cc)
absent dir (seen_as.File n) e h = absurd (cc)

pub refused_unlike : (dir : Bool) (told : Option Tree) (p : Names) (e : WriteError) → is_refusal e ≡ true → IfSome told (λ t. WriteAnswers {X = Unit {0}} (refused_at (seen t p)) (Err e)) → IfSome told (λ t. is_kind dir (seen t p) ≡ false)
refused_unlike dir None p e h r = tt
refused_unlike dir (Some t) p e h r = absent dir (seen t p) e (refusal_is (refused_at (seen t p)) e h r)

-- what setting attributes leaves where the target refuses
pub set_stops : (count : ℕ) (dir : Bool) (p : Names) (a : Attributes) (old mid new : Option Tree) (error : WriteError) (r : StepError) → mid ≡ old → Answers error p count r → Changes {X = Unit {0}} (λ t. updated t p (with_attrs a)) mid new (Err error)
    → IfSome mid (λ t. WriteAnswers {X = Unit {0}} (refused_at (seen t p)) (Err error)) → StopsIn count (set_at dir p a) old new r
set_stops count dir p a old mid new error r e h w x = subst (λ (o : Option Tree). StopsIn count (set_at dir p a) o new r) e (call_stops count (set_at dir p a) mid new error r h w (λ f. refused_unlike dir mid p error f x))
