-- What contracts say of draws and drawers.
use Rattle.std.specs.Prelude.{◌≡◌, ℕ, Bool, false, List, []}
use Rattle.atomic_table.specs.Seated.{TableId}
use Rattle.dc_pool.specs.declared.draws.Draws.{Draws}
use Rattle.dc_pool.specs.declared.draws.Drawer.{Drawer}
use Rattle.dc_pool.specs.Drawing.{view}

-- how many bundles there are
abbrev pub bundle_count : Draws → ℕ
bundle_count draws = draws.bundles

-- how many seats were made
abbrev pub seat_count : Draws → ℕ
seat_count draws = draws.seats

-- the numbers that a drawer drew, in order
abbrev pub drawn_by : Drawer → List ℕ
drawn_by drawer = drawer.seat.me.0.drawn

-- how many seats a drawer holds
abbrev pub seats_of : Drawer → ℕ
seats_of drawer = drawer.seat.me.0.seats

-- a drawer was told that all bundles are given
abbrev pub is_over : Drawer → Bool
is_over drawer = drawer.ended

-- draws and a drawer were made together
abbrev pub AreTogether : Draws → Drawer → Type 0
AreTogether draws drawer = (drawer.seat.table_id ≡ draws.table.shared.table_id) × (drawer.bundles ≡ draws.bundles)

-- a drawer of this table with one seat, which has drawn nothing
abbrev pub IsNewAt : TableId → ℕ → Drawer → Type 0
IsNewAt table bundles d = (d.seat.table_id ≡ table) × (d.bundles ≡ bundles) × (d.ended ≡ false) × (d.seat.me.0 ≡ view [] 1)

-- a drawer that was made together with these draws, has one seat, and has drawn nothing
abbrev pub IsNew : Draws → Drawer → Type 0
IsNew draws drawer = IsNewAt draws.table.shared.table_id draws.bundles drawer
