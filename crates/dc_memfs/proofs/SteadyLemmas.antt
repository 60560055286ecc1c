-- Objects on which no call fails.
use Rattle.std.proofs.Common.{◌≡◌, Bool, true, false, ◌&&◌, List, [], ◌∷◌, refl}
use Rattle.dc_fs.specs.Causes.{steady_at}
use Rattle.dc_memfs.specs.declared.fails.Fail.{Fail}
use Rattle.dc_memfs.specs.declared.fails.Which.{Which}
use Rattle.dc_memfs.specs.declared.calls.Calls.{Calls}
use Rattle.dc_memfs.specs.Failing.{is_steady, next_fate, fails, after_call}

pub never_fails : (list : List Fail) (which : Which) (calls : Calls) → is_steady list ≡ true → fails (next_fate list which calls) ≡ false
never_fails [] which calls h = refl
never_fails (fail ∷ list) which calls h = cc

pub stays_steady : (list : List Fail) (which : Which) (calls : Calls) → steady_at (is_steady list) (after_call list which calls).faults ≡ steady_at (is_steady list) calls.faults
stays_steady [] which calls = refl
stays_steady (fail ∷ list) which calls = refl

pub both_steady : (list : List Fail) (which : Which) (calls : Calls) (others : Bool) → steady_at (is_steady list && others) (after_call list which calls).faults ≡ steady_at (is_steady list && others) calls.faults
both_steady [] which calls others = refl
both_steady (fail ∷ list) which calls others = refl
