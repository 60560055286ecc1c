-- Where each slot hangs, as links are set and cut and notes are written.
use Rattle.std.proofs.Common.{◌≡◌, ℕ, ◌+◌, ◌<◌, ◌≤◌, length-append, List, [], ◌∷◌, ◌++◌, Option, Some, None, length, refl, sym, ◌∙◌, ap, arith, zero, suc}
use Rattle.std.proofs.Math.ListN.{set}
use Rattle.std.proofs.Math.Path.{fun_ext}
use Rattle.dc_attrs.specs.Trees.{Node}
use Rattle.dc_tree.specs.declared.homes.Home.{Home}
use Rattle.dc_tree.specs.Arena.{Cell, link, node, IsForest, IsArena}
use Rattle.dc_tree.specs.Edits.{Adds}
use Rattle.dc_tree.specs.Homes.{home_at, AreHomes, Rehomed}
use Rattle.dc_tree.proofs.Graph.{Link, LinkCase, this, elsewhere, link_case}

-- a slot more without a note changes no note
pub homes_pushed_at : (homes : List (Option Home)) (k : ℕ) → home_at (homes ++ None ∷ []) k ≡ home_at homes k
homes_pushed_at [] zero = refl
homes_pushed_at [] (suc k) = refl
homes_pushed_at (h ∷ homes) zero = refl
homes_pushed_at (h ∷ homes) (suc k) = homes_pushed_at homes k

pub homes_pushed : (homes : List (Option Home)) → home_at (homes ++ None ∷ []) ≡ home_at homes
homes_pushed homes = fun_ext (homes_pushed_at homes)

pub homes_longer : (old new : List (Option Home)) (n : ℕ) → new ≡ old ++ None ∷ [] → n ≤ length old → n + 1 ≤ length new
homes_longer old new n e h =
    let more : length new ≡ length (old ++ None ∷ []) = ap (λ (xs : List (Option Home)). length xs) e in
    let sum = length-append old (None ∷ []) in
    omega (arith, more, sum, h)

-- a note is written

home_here : (homes : List (Option Home)) (i : ℕ) (home : Home) → i < length homes → home_at (set homes i (Some home)) i ≡ Some home
home_here [] i home h = absurd (omega arith)
home_here (x ∷ homes) zero home h = refl
home_here (x ∷ homes) (suc i) home h = home_here homes i home (omega arith)

home_other : (homes : List (Option Home)) (i : ℕ) (home : Home) (k : ℕ) → (k ≡ i → ⊥) → home_at (set homes i (Some home)) k ≡ home_at homes k
home_other [] i home k e = refl
home_other (x ∷ homes) zero home zero e = absurd (e refl)
home_other (x ∷ homes) zero home (suc k) e = refl
home_other (x ∷ homes) (suc i) home zero e = refl
home_other (x ∷ homes) (suc i) home (suc k) e = home_other homes i home k (λ h. e (ap (λ n. suc n) h))

pub rehomed : (homes : List (Option Home)) (i : ℕ) (home : Home) → i < length homes → Rehomed homes (set homes i (Some home)) i home
rehomed homes i home h = record { here = home_here homes i home h; others = home_other homes i home }

-- where there is a note, there is room for it
pub homes_within : (homes : List (Option Home)) (i : ℕ) (home : Home) → home_at homes i ≡ Some home → i < length homes
homes_within [] i home e = cc
homes_within (x ∷ homes) zero home e = omega arith
homes_within (x ∷ homes) (suc i) home e = let h = homes_within homes i home e in omega arith

-- a graph with fewer links, or with the same notes
pub homes_fewer : (g h : Link) (homes : List (Option Home)) → ((k : ℕ) (x : List ℕ) (c : ℕ) → h k x ≡ Some c → g k x ≡ Some c) → AreHomes g homes → AreHomes h homes
homes_fewer g h homes fewer a k x c e = a k x c (fewer k x c e)

pub homes_same : (g h : Link) (old new : List (Option Home)) → h ≡ g → home_at new ≡ home_at old → AreHomes g old → AreHomes h new
homes_same g h old new e s a k x c f = ap (λ (u : ℕ → Option Home). u c) s ∙ a k x c (sym (ap (λ (g : Link). g k x) e) ∙ f)

-- a link is set, and noted at the slot to which it leads
homes_set_at : (g h : Link) (n : ℕ → Option Node) (old new : List (Option Home)) (at : ℕ) (name : List ℕ) (to : ℕ) → IsForest h n → AreHomes g old → h at name ≡ Some to
    → ((k : ℕ) (x : List ℕ) (c : ℕ) → (k ≡ at → x ≡ name → ⊥) → h k x ≡ Some c → g k x ≡ Some c) → Rehomed old new to (record { parent = at; name = name })
    → (k : ℕ) (x : List ℕ) (c : ℕ) → LinkCase k x at name → h k x ≡ Some c → home_at new c ≡ Some (record { parent = k; name = x })
homes_set_at g h n old new at name to f a link rest r k x c (this ka xy) e =
    let both : Some to ≡ Some c = sym link ∙ ap (λ (j : ℕ). h j name) (sym ka) ∙ ap (h k) (sym xy) ∙ e in
    let same : c ≡ to = cc in
    let is : Some (record { parent = at; name = name }) ≡ Some (record { parent = k; name = x }) = cc in
    ap (home_at new) same ∙ r.here ∙ is
homes_set_at g h n old new at name to f a link rest r k x c (elsewhere apart) e =
    r.others c (λ s. let w = f.apart k x at name to (e ∙ ap (λ (j : ℕ). Some j) s) link in apart w.0 w.1) ∙ a k x c (rest k x c apart e)

pub homes_set : (g h : Link) (n : ℕ → Option Node) (old new : List (Option Home)) (at : ℕ) (name : List ℕ) (to : ℕ) → IsForest h n → AreHomes g old → h at name ≡ Some to
    → ((k : ℕ) (x : List ℕ) (c : ℕ) → (k ≡ at → x ≡ name → ⊥) → h k x ≡ Some c → g k x ≡ Some c) → Rehomed old new to (record { parent = at; name = name }) → AreHomes h new
homes_set g h n old new at name to f a link rest r k x c e = homes_set_at g h n old new at name to f a link rest r k x c (link_case k x at name) e

-- a new cell is hung, and noted
pub hung_homes : (old new : List Cell) (at : ℕ) (name : List ℕ) (v : Option Node) (was now : List (Option Home)) → Adds old at name v new → IsArena new → AreHomes (link old) was → ((c : ℕ) → link new at name ≡ Some c → Rehomed was now c (record { parent = at; name = name })) → AreHomes (link new) now
hung_homes old new at name v was now a f h r =
    homes_set (link old) (link new) (node new) was now at name a.cell f h a.set.here (λ k x c apart e. sym (a.set.others k x apart) ∙ e) (r a.cell a.set.here)

-- a note is written where notes are as before
pub rehomed_from : (old one new : List (Option Home)) (c : ℕ) (home : Home) → home_at one ≡ home_at old → Rehomed one new c home → Rehomed old new c home
rehomed_from old one new c home same r = record { here = r.here; others = λ k apart. r.others k apart ∙ ap (λ (u : ℕ → Option Home). u k) same }

-- the note of a new slot, of which room was made
pub noted : (old mid new : List (Option Home)) (at : ℕ) (x name : List ℕ) (to c : ℕ) (o : Option ℕ) → o ≡ Some to → o ≡ Some c → x ≡ name → home_at mid ≡ home_at old → Rehomed mid new to (record { parent = at; name = x }) → Rehomed old new c (record { parent = at; name = name })
noted old mid new at x name to c o e f n same r =
    let both : Some to ≡ Some c = sym e ∙ f in
    let is : to ≡ c = cc in
    let home : Some (record { parent = at; name = x }) ≡ Some (record { parent = at; name = name }) = cc in
    record {
      here = ap (home_at new) (sym is) ∙ r.here ∙ home;
      others = λ k apart. r.others k (λ h. apart (h ∙ is)) ∙ ap (λ (u : ℕ → Option Home). u k) same;
    }
