-- The server of a number, by the facts about it and its block.
use Rattle.std.specs.Prelude.{ℕ, ◌≡◌, Option, Some, None, is_some, option_map, if◌then◌else◌}
use Rattle.numbers.specs.Digits.{code_of, block_of}
use Rattle.numbers.specs.Subjects.{Number, Block}
use Rattle.version.specs.Abstraction.{model_of}
use Rattle.version.specs.Facts.{HasModelIfAny}
use Rattle.model.specs.Versions.{Version, open_version, version_in_force}
use Rattle.model.specs.History.{code_holder, donor_of}
use Rattle.model.specs.State.{State, Server, ByVersion, ByBlock, InPool, ByCode, record_now, protected_by, served_by_block}
use Rattle.pool.specs.declared.service.Server.{Server as ServerImpl}
use Rattle.pool.specs.declared.service.Server.TheVariants.{Version as VersionImpl, Block as BlockImpl, Pool as PoolImpl, Code as CodeImpl}
use Rattle.pool.specs.declared.service.ServingFacts.{ServingFacts}
use Rattle.pool.specs.Facts.{carrier_number}

abbrev pub server_of : ServerImpl → Server
server_of (VersionImpl carrier) = ByVersion carrier.number
server_of (BlockImpl carrier) = ByBlock carrier.number
server_of PoolImpl = InPool
server_of (CodeImpl carrier) = ByCode (carrier_number carrier)

-- The carrier of a server, if it has one.
abbrev pub carrier_of : Server → Option ℕ
carrier_of (ByVersion c) = Some c
carrier_of (ByBlock c) = Some c
carrier_of InPool = None
carrier_of (ByCode c) = c

-- The new provider of a version in force, or else the given server.
abbrev pub served_by_version : Option Version → Server → Server
served_by_version (Some v) other = ByVersion v.new_provider
served_by_version None other = other

-- The server by the block if it is donated, or else by the code.
abbrev pub served_by_code : ServingFacts → Server
served_by_code f = if f.is_donated then served_by_block (option_map model_of f.block_in_force)
    else ByCode (carrier_number f.code_holder)

-- The model's `serving`, over the facts.
abbrev pub serving_of : ServingFacts → Server
serving_of f =
    served_by_version (option_map model_of f.in_force) (protected_by (option_map model_of f.opened)
    (served_by_code f))

-- Holds if the facts are those of a number of the state.
pub record ServingFactsMatch (st : State) (n : ℕ) (f : ServingFacts) : Type 0 where
  pub in_force : HasModelIfAny f.in_force (version_in_force (record_now st (Number n)))
  pub opened : HasModelIfAny f.opened (open_version (Number n) (record_now st (Number n)))
  pub donated : f.is_donated ≡ is_some (donor_of (block_of n) st.history)
  pub block : HasModelIfAny f.block_in_force (version_in_force (record_now st (Block (block_of n))))
  pub code : carrier_number f.code_holder ≡ code_holder (code_of n) st.history
