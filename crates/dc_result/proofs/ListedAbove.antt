-- What roots list has a listed directory above it, or the base.
use Rattle.std.proofs.Common.{◌≡◌, ◌⊎◌, inl, inr, ⊎_elim, ℕ, ◌≤◌, List, [], ◌∷◌, ◌++◌, length, length-append, Bool, true, false, cond, not, ◌&&◌, ◌||◌, Option, Some, None, slice_get, is_some, refl, sym, ◌∙◌, ap, subst, arith, append-nil, append_assoc}
use Rattle.std.proofs.lemmas.Bool.{and_from}
use Rattle.std.proofs.lemmas.Grind.{flat_map-append}
use Rattle.std.specs.Cmp.{first_so, second_so}
use Rattle.std.specs.List.{flat_map}
use Rattle.std.specs.Option.{option_map_or}
use Rattle.dc_path.specs.Names.{same_name}
use Rattle.dc_path.specs.Paths.{Names, at_cut, cut, is_root}
use Rattle.dc_path.proofs.PathLemmas.{Last, empty, ended, cut-append, last_case, nil_is_no_end, root_is, same_ends}
use Rattle.dc_attrs.specs.Trees.{Node, Dir, File, Tree, IsTree, is_dir, is_dir_node, seen, seen_from, seen_node, seen_on, snapshot}
use Rattle.dc_attrs.specs.declared.shown.Seen.TheVariants as seen_as
use Rattle.dc_attrs.proofs.TreeLemmas.{front_is_dir}
use Rattle.dc_listing.specs.Listed.{Origin, Rules, all_listed, is_bare, is_barred, is_barred_root, is_left_out, is_listed, listed_by, origins_of}
use Rattle.dc_listing.specs.declared.item.Root.{Root}
use Rattle.dc_decide.specs.Deciding.{clashes}
use Rattle.dc_result.specs.Begins.{Begins, HasDir, HasRoom, copies_dir}
use Rattle.dc_result.specs.Jobs.{IsJob, Job, in_run, listed, lists_file}
use Rattle.dc_result.specs.Planning.{GoesOn, ListedCopiesBegin}
use Rattle.dc_result.proofs.Built.{run_listed}
use Rattle.dc_result.proofs.KindLemmas.{stands_dir}
use Rattle.dc_result.proofs.Setting.{not_so}
use Rattle.dc_result.proofs.Planning.{FirstRoot, first_root}

-- ---- looks below what clashes with a directory
-- below a file, or what is below one, nothing is a directory
pub below_file : (t : Tree) (front q : Names) (x : List ℕ) (rest : Names) → clashes true (seen_from t front q) ≡ true → seen_from t front (q ++ x ∷ rest) ≡ seen_as.NotDir
below_file t front [] x rest h = by (t front) h
  where
    by : (o : Option Node) → clashes true (seen_node o) ≡ true → seen_on o (seen_from t (front ++ x ∷ []) rest) ≡ seen_as.NotDir
    by None e = absurd (cc)
    by (Some (Dir a)) e = let f : false ≡ true = e in absurd (cc)
    by (Some (File b a)) e = refl
below_file t front (y ∷ q) x rest h = by (t front) (below_file t (front ++ y ∷ []) q x rest) h
  where
    by : (o : Option Node) → (clashes true (seen_from t (front ++ y ∷ []) q) ≡ true → seen_from t (front ++ y ∷ []) (q ++ x ∷ rest) ≡ seen_as.NotDir) → clashes true (seen_on o (seen_from t (front ++ y ∷ []) q)) ≡ true
        → seen_on o (seen_from t (front ++ y ∷ []) (q ++ x ∷ rest)) ≡ seen_as.NotDir
    by None ih e = absurd (cc)
    by (Some (Dir a)) ih e = ih e
    by (Some (File b a)) ih e = refl

-- ---- what one root lists above what it lists
left_front : (rules : Rules) (from rel p q : Names) → is_left_out rules from rel (p ++ q) ≡ false → is_left_out rules from rel p ≡ false
left_front rules from rel [] q h = refl
left_front rules from rel (x ∷ p) q h = by (same_name snapshot x) (is_barred rules (from ++ x ∷ []) (rel ++ x ∷ [])) (left_front rules (from ++ x ∷ []) (rel ++ x ∷ []) p q) h
  where
    by : (b c : Bool) → (is_left_out rules (from ++ x ∷ []) (rel ++ x ∷ []) (p ++ q) ≡ false → is_left_out rules (from ++ x ∷ []) (rel ++ x ∷ []) p ≡ false)
        → (b || (c || is_left_out rules (from ++ x ∷ []) (rel ++ x ∷ []) (p ++ q))) ≡ false → (b || (c || is_left_out rules (from ++ x ∷ []) (rel ++ x ∷ []) p)) ≡ false
    by true c ih e = absurd (cc)
    by false true ih e = absurd (cc)
    by false false ih e = ih e

-- the parts of what is listed below the root's own path
open_root : (rules : Rules) (s : Tree) (root : Root) (r : Names) (y : List ℕ) → is_listed rules s root (r ++ y ∷ []) ≡ true → (is_barred_root rules s root ≡ false) × (is_left_out rules root.source root.prefix (r ++ y ∷ []) ≡ false)
open_root rules s root [] y h = let k = second_so _ _ h in (not_so _ (first_so _ _ k), not_so _ (second_so _ _ k))
open_root rules s root (x ∷ r) y h = let k = second_so _ _ h in (not_so _ (first_so _ _ k), not_so _ (second_so _ _ k))

some_dir : (o : Option Node) → is_dir_node o ≡ true → is_some o ≡ true
some_dir None e = absurd (cc)
some_dir (Some n) e = refl

own_path : (rules : Rules) (s : Tree) (root : Root) (y : List ℕ) → is_dir_node (s (root.source ++ [])) ≡ true → is_listed rules s root (y ∷ []) ≡ true → (root.prefix ≡ []) ⊎ (is_listed rules s root [] ≡ true)
own_path rules s root y d h = by (is_root root.prefix) refl
  where
    by : (b : Bool) → is_root root.prefix ≡ b → (root.prefix ≡ []) ⊎ (is_listed rules s root [] ≡ true)
    by true e = inl (root_is root.prefix e)
    by false e = inr (and_from (is_some (s root.source)) _ (some_dir (s root.source) (ap (λ (p : Names). is_dir_node (s p)) (sym (append-nil root.source)) ∙ d))
        (and_from (not (is_barred_root rules s root)) (not (is_bare s root)) (ap not (open_root rules s root [] y h).0) (ap (λ b. not (b && is_dir_node (s root.source))) e)))

-- the root lists what is above, unless that is its own path and bare
lists_above : (rules : Rules) (s : Tree) (root : Root) (r : Names) (y : List ℕ) → is_dir_node (s (root.source ++ r)) ≡ true → is_listed rules s root (r ++ y ∷ []) ≡ true
    → ((r ≡ []) × (root.prefix ≡ [])) ⊎ (is_listed rules s root r ≡ true)
lists_above rules s root [] y d h = ⊎_elim (λ e. inl (refl, e)) (λ e. inr e) (own_path rules s root y d h)
lists_above rules s root (x ∷ r) y d h =
    let k = open_root rules s root (x ∷ r) y h in
    inr (and_from (is_some (s (root.source ++ x ∷ r))) _ (some_dir (s (root.source ++ x ∷ r)) d)
    (and_from (not (is_barred_root rules s root)) (not (is_left_out rules root.source root.prefix (x ∷ r))) (ap not k.0) (ap not (left_front rules root.source root.prefix (x ∷ r) (y ∷ []) k.1))))

-- what a root lists at a path
lists_here : (rules : Rules) (s : Tree) (root : Root) (r q : Names) (n : Node) → q ≡ root.prefix ++ r → s (root.source ++ r) ≡ Some n → is_listed rules s root r ≡ true → listed_by rules s root q ≡ record { from = root.source ++ r; node = n } ∷ []
lists_here rules s root r q n e f h =
    ap (λ o. at_cut o [] (λ rest. origins_of (root.source ++ rest) (s (root.source ++ rest)) (is_listed rules s root rest))) (ap (cut root.prefix) e ∙ cut-append root.prefix r)
    ∙ ap (λ b. origins_of (root.source ++ r) (s (root.source ++ r)) b) h
    ∙ ap (λ o. origins_of (root.source ++ r) o true) f

-- ---- a path that is listed once
only_one : (xs ys : List Origin) (z : Origin) → length (xs ++ z ∷ ys) ≤ 1 → slice_get (xs ++ z ∷ ys) 0 ≡ Some z
only_one [] ys z h = refl
only_one (x ∷ xs) ys z h = let n = length-append xs (z ∷ ys) in absurd (omega (arith, n, h))

lists_first : (rules : Rules) (s : Tree) (before behind roots : List Root) (root : Root) (q : Names) (z : Origin) → roots ≡ before ++ root ∷ behind → listed_by rules s root q ≡ z ∷ [] → length (all_listed rules s roots q) ≤ 1 → listed rules s roots q ≡ Some z
lists_first rules s before behind roots root q z e h once =
    let split : all_listed rules s roots q ≡ flat_map (λ r. listed_by rules s r q) before ++ z ∷ flat_map (λ r. listed_by rules s r q) behind =
    ap (flat_map (λ (r : Root). listed_by rules s r q)) e ∙ flat_map-append (λ (r : Root). listed_by rules s r q) before (root ∷ behind)
    ∙ ap (λ (zs : List Origin). flat_map (λ (r : Root). listed_by rules s r q) before ++ (zs ++ flat_map (λ (r : Root). listed_by rules s r q) behind)) h in
    ap (λ (zs : List Origin). slice_get zs 0) split
    ∙ only_one (flat_map (λ r. listed_by rules s r q) before) (flat_map (λ r. listed_by rules s r q) behind) z (subst (λ (zs : List Origin). length zs ≤ 1) split once)

-- ---- the copy
nothing_longer : (q : Names) (x : List ℕ) (p : Names) → q ++ x ∷ [] ≡ p → length p ≤ 1 → q ≡ []
nothing_longer [] x p e h = refl
nothing_longer (y ∷ q) x p e h =
    let n : length ((y ∷ q) ++ x ∷ []) ≡ length p = ap length e in
    let m = length-append (y ∷ q) (x ∷ []) in
    absurd (omega (arith, n, m, h))

one_of : (before behind : List Root) (root only : Root) → only ∷ [] ≡ before ++ root ∷ behind → root ≡ only
one_of [] behind root only e = cc
one_of (r ∷ before) behind root only e =
    let n : 1 ≡ length ((r ∷ before) ++ root ∷ behind) = ap length e in
    let m = length-append (r ∷ before) (root ∷ behind) in
    absurd (omega (arith, n, m))

nil_parts : (p r : Names) → [] ≡ p ++ r → (p ≡ []) × (r ≡ [])
nil_parts [] r e = (refl, sym e)
nil_parts (x ∷ p) r e = absurd (cc)

module _ (rules : Rules) (s : Tree) (roots : List Root) (job : Job) (list : job.listing ≡ listed rules s roots) (is : IsJob s job) (goes : GoesOn rules s roots job) where
  -- what is copied is listed by a root
  run_root : (rel : Names) (z : Origin) → in_run job rel ≡ Some z → FirstRoot rules s roots rel z
  run_root rel z run = first_root rules s roots rel z (ap (λ (f : Names → Option Origin). f rel) (sym list) ∙ run_listed job rel z run)

  -- the root path has no directory that is copied
  node_not : (root : Root) (r : Names) (z : Origin) → root.prefix ≡ [] → r ≡ [] → s (root.source ++ r) ≡ Some z.node → is_listed rules s root r ≡ true → is_dir z.node ≡ false
  node_not root [] z p r n l = by (is_dir_node (s root.source)) refl
    where
      here : is_dir z.node ≡ is_dir_node (s root.source)
      here = sym (ap is_dir_node (sym (ap s (append-nil root.source)) ∙ n))

      by : (b : Bool) → is_dir_node (s root.source) ≡ b → is_dir z.node ≡ false
      by false e = here ∙ e
      by true e =
          let bare : is_bare s root ≡ true = ap (λ (q : Names). is_root q && is_dir_node (s root.source)) p ∙ e in
          let both : (not (is_barred_root rules s root) && not (is_bare s root)) ≡ true = second_so (is_some (s root.source)) (not (is_barred_root rules s root) && not (is_bare s root)) l in
          let item : not (is_bare s root) ≡ true = second_so (not (is_barred_root rules s root)) (not (is_bare s root)) both in
          let f : false ≡ true = sym (ap not bare) ∙ item in absurd (cc)
  node_not root (x ∷ r) z p e n l = absurd (cc)

  root_file : (z : Origin) → FirstRoot rules s roots [] z → is_dir z.node ≡ false
  root_file z f = let e = nil_parts f.root.prefix f.is.rest f.is.path in node_not f.root f.is.rest z e.0 e.1 f.is.node f.is.listed

  no_root_dir : copies_dir job [] ≡ false
  no_root_dir = by (in_run job []) refl
    where
      by : (o : Option Origin) → in_run job [] ≡ o → option_map_or (λ (origin : Origin). is_dir origin.node) o false ≡ false
      by None e = refl
      by (Some z) e = root_file z (run_root [] z e)

  -- where a file is listed at the root path, nothing else is listed
  file_alone : (q : Names) (x : List ℕ) (z : Origin) → in_run job (q ++ x ∷ []) ≡ Some z → lists_file job [] ≡ false
  file_alone q x z run = by (job.listing []) refl
    where
      by : (o : Option Origin) → job.listing [] ≡ o → option_map_or (λ (origin : Origin). not (is_dir origin.node)) o false ≡ false
      by None e = refl
      by (Some y) e =
          let f = first_root rules s roots [] y (ap (λ (l : Names → Option Origin). l []) (sym list) ∙ e) in
          let n = nil_parts f.root.prefix f.is.rest f.is.path in
          let file : is_dir_node (s f.root.source) ≡ false = ap is_dir_node (ap s (sym (append-nil f.root.source) ∙ ap (λ (r : Names). f.root.source ++ r) (sym n.1)) ∙ f.is.node) ∙ root_file y f in
          let one = goes.roots_are.alone f.before f.behind f.root f.roots_are n.0 file in
          let g = run_root (q ++ x ∷ []) z run in
          let same : g.root ≡ f.root = one_of g.before g.behind g.root f.root (sym one ∙ g.roots_are) in
          let at : q ++ x ∷ [] ≡ g.is.rest = g.is.path ∙ ap (λ (p : Names). p ++ g.is.rest) (ap (λ (r : Root). r.prefix) same ∙ n.0) in
          let stands : s (f.root.source ++ (q ++ x ∷ [])) ≡ Some z.node = ap (λ (r : Root). s (r.source ++ (q ++ x ∷ []))) (sym same) ∙ ap (λ (r : Names). s (g.root.source ++ r)) at ∙ g.is.node in
          absurd (under_file f.root.source (q ++ x ∷ []) (nil_is_no_end q x) z.node goes.roots_are.tree file stands)
        where
          under_file : (p r : Names) → ([] ≡ r → ⊥) → (m : Node) → IsTree s → is_dir_node (s p) ≡ false → s (p ++ r) ≡ Some m → ⊥
          under_file p [] never m v h k = never refl
          under_file p (w ∷ r) never m v h k = let d = front_is_dir s p w r m (s p) v k refl in let f : true ≡ false = sym (stands_dir s p d) ∙ h in cc

  base_here : (q : Names) (x : List ℕ) (z : Origin) → q ≡ [] → in_run job (q ++ x ∷ []) ≡ Some z → HasDir job q
  base_here q x z e run = inl (ap (λ (p : Names). is_root p && not (lists_file job [])) e ∙ ap not (file_alone q x z run))

  -- a listed directory above what is copied is copied
  dir_copied : (q : Names) (x : List ℕ) (z y : Origin) → in_run job (q ++ x ∷ []) ≡ Some z → job.listing q ≡ Some y → is_dir y.node ≡ true → copies_dir job q ≡ true
  dir_copied q x z y run l d = by (job.out q) refl
    where
      by : (b : Bool) → job.out q ≡ b → option_map_or (λ (origin : Origin). is_dir origin.node) (cond b None (job.listing q)) false ≡ true
      by false e = ap (λ o. option_map_or (λ (origin : Origin). is_dir origin.node) o false) l ∙ d
      by true e =
          let c = goes.clashing q y l d e in
          let no : seen job.before (job.base ++ (q ++ x ∷ [])) ≡ seen_as.NotDir = ap (seen job.before) (sym (append_assoc job.base q (x ∷ []))) ∙ below_file job.before [] (job.base ++ q) x [] c in
          let f : true ≡ false = sym (ap (clashes (is_dir z.node)) no) ∙ is.unclashed (q ++ x ∷ []) z run in absurd (cc)

  by_rest : (q : Names) (x : List ℕ) (z : Origin) → in_run job (q ++ x ∷ []) ≡ Some z → (f : FirstRoot rules s roots (q ++ x ∷ []) z) → Last f.is.rest → HasDir job q
  by_rest q x z run f (empty e) =
      base_here q x z (nothing_longer q x f.root.prefix (f.is.path ∙ ap (λ (r : Names). f.root.prefix ++ r) e ∙ append-nil f.root.prefix) (goes.roots_are.short f.before f.behind f.root f.roots_are)) run
  by_rest q x z run f (ended r y e) =
      let at : q ≡ f.root.prefix ++ r = (same_ends q (f.root.prefix ++ r) x y (f.is.path ∙ ap (λ (p : Names). f.root.prefix ++ p) e ∙ sym (append_assoc f.root.prefix r (y ∷ [])))).0 in
      let up = goes.roots_are.tree.parents (f.root.source ++ r) y z.node (ap s (append_assoc f.root.source r (y ∷ []) ∙ ap (λ (p : Names). f.root.source ++ p) (sym e)) ∙ f.is.node) in
      ⊎_elim
      (λ bare. base_here q x z (at ∙ ap (λ (p : Names). p ++ r) bare.1 ∙ bare.0) run)
      (λ l. inr (inl (dir_copied q x z (record { from = f.root.source ++ r; node = Dir up.0 }) run
      (ap (λ (g : Names → Option Origin). g q) list
      ∙ lists_first rules s f.before f.behind roots f.root q (record { from = f.root.source ++ r; node = Dir up.0 }) f.roots_are (lists_here rules s f.root r q (Dir up.0) at up.1 l) (goes.once q)) refl)))
      (lists_above rules s f.root r y (stands_dir s (f.root.source ++ r) up) (ap (is_listed rules s f.root) (sym e) ∙ f.is.listed))

  pub has_dirs : (q : Names) (x : List ℕ) (z : Origin) → in_run job (q ++ x ∷ []) ≡ Some z → HasDir job q
  has_dirs q x z run = let f = run_root (q ++ x ∷ []) z run in by_rest q x z run f (last_case f.is.rest)

  pub begins_so : HasRoom job → Begins job
  begins_so room = record { room = room; root = no_root_dir; parents = has_dirs }

pub listed_copies_begin : ListedCopiesBegin
listed_copies_begin rules s roots job list is room goes = begins_so rules s roots job list is goes room
