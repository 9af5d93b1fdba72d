-- What serving makes of the rows, whatever the sockets gave.
use Rattle.std.specs.Prelude.{◌≤◌}
use Rattle.model.specs.State.{State}
use Rattle.register.specs.Refinement.{Refines}
use Rattle.settle.specs.StoreContract.{BeginsNoGroup}
use Rattle.settle.specs.declared.store_model.StoreModel.{Ghosts}
use Rattle.api.specs.Serving.{RefinesReachable}

-- Holds if the new content refines a state that the machine can reach from each state that the old
-- one refines, a store that is usable, honest or in a group was so before, and the count of
-- failures did not fall.
pub record RowsFollow {S : Type 0} (store : Ghosts S) (old new : S) : Type 0 where
  pub usable : store.IsUsable new → store.IsUsable old
  pub honest : store.HasHonestDevice new → store.HasHonestDevice old
  pub begins : BeginsNoGroup store old new
  pub rises : store.failed old ≤ store.failed new
  pub state : store.IsUsable new → (st : State) → Refines (store.content old) st
      → RefinesReachable st (store.content new)
