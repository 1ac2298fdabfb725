-- The record of a rank. Assumes nothing.
use Rattle.std.specs.Prelude.{ℕ, Bool, true, false, not, ◌&&◌, ◌||◌, ◌==◌}
use Rattle.plan.specs.Model.{PlanModel}
use Rattle.laws.specs.declared.records.DeliveryState.{DeliveryState}
use Rattle.laws.specs.declared.records.DeliveryState.TheVariants.{Idle, Open, Closed}
use Rattle.laws.specs.declared.records.RankRecord.{RankRecord}

-- the record that a rank starts with
abbrev pub initial : RankRecord
initial = record { state = Idle; next = 0; round = 0; slot = 0; sent = 0 }

abbrev pub is_open : DeliveryState → Bool
is_open Idle = false
is_open Open = true
is_open Closed = false

abbrev pub is_closed : DeliveryState → Bool
is_closed Idle = false
is_closed Open = false
is_closed Closed = true

-- the rank has an accepted step
abbrev pub started : RankRecord → Bool
started e = not (e.round == 0 && e.slot == 0)

-- the rank's picture cannot be delivered anew
abbrev pub engaged : RankRecord → Bool
engaged e = is_open e.state || started e

-- the picture is closed, and the rank is in the plan's last round
abbrev pub finished : PlanModel → RankRecord → Bool
finished p e = is_closed e.state && e.round == p.rounds

-- the record with another delivery state and next pixel
abbrev pub with_delivery : RankRecord → DeliveryState → ℕ → RankRecord
with_delivery e d n = record { state = d; next = n; round = e.round; slot = e.slot; sent = e.sent }
