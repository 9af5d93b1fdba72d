-- A flaky store's calls, which begin with a countdown that leaves the store below.
use Rattle.std.proofs.Common.{◌≡◌, subst}
use Rattle.settle.specs.StoreContract.{ShutsOnlyOnFault}
use Rattle.settle.specs.declared.store_model.StoreModel.{Ghosts}

-- What shuts the store since a countdown shuts it since before that.
pub shuts_since : {S : Type 0} (store : Ghosts S) (before counted after : S) → counted ≡ before
    → ShutsOnlyOnFault store counted after → ShutsOnlyOnFault store before after
shuts_since store before counted after same =
    subst (λ s. ShutsOnlyOnFault store s after) same
