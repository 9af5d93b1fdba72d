-- The state of a block, and the facts that commands on blocks need.
use Rattle.std.specs.Prelude.{◌≡◌, ◌⊎◌, ℕ, Bool, true, false, nat_lt, Option, Some, None, is_some, option_map, ⊤}
use Rattle.std.specs.FinMap.{get}
use Rattle.numbers.specs.Digits.{block_code_of}
use Rattle.model.specs.Commands.{Command, RegisterCarrier, RegisterRoutingNumber, OpenCode, OldProviderCreate, NewProviderCreate, OnVersion, Donate, Assign, Release, SetWindows}
use Rattle.model.specs.Conditions.{is_the}
use Rattle.model.specs.Content.{Content, ClockRow}
use Rattle.model.specs.RefusalNumbers.{number_of}
use Rattle.model.specs.declared.refusal.Refusal.{Refusal}
use Rattle.model.specs.declared.refusal.Refusal.TheVariants.{UnknownCarrier}
use Rattle.version.specs.declared.version.Version.{Version as VersionImpl}
use Rattle.settle.specs.declared.rows.VersionRow.TheInside.{Inside}
use Rattle.settle.specs.declared.rows.BlockRow.{BlockRow as BlockRowImpl}
use Rattle.settle.specs.Reads.{AreInBlock}
use Rattle.settle.specs.Abstraction.{version_row_of, block_row_of, spid_of}
use Rattle.pool.specs.declared.facts.BlockFacts.{BlockFacts}
use Rattle.register.specs.declared.blocks.BlockRead.{BlockRead}

-- The id of the version that was made last of a block, by the block's row.
abbrev pub last_id : Option BlockRowImpl → Option ℕ
last_id None = None
last_id (Some row) = row.last

-- Holds if the version is the one with this id, or if there is neither.
abbrev pub IsLast : Content → Option ℕ → Option (ℕ × VersionImpl) → Type 0
IsLast c None None = ⊤
IsLast c (Some id) (Some e) = (e.0 ≡ id) × (row : Inside)
    × (get c.versions id ≡ Some (version_row_of row)) × (row.version ≡ e.1)
IsLast c None (Some e) = ⊥
IsLast c (Some id) None = ⊥

-- Holds if no id is given, or a row has it.
abbrev pub IsRowThere : Content → Option ℕ → Type 0
IsRowThere c None = ⊤
IsRowThere c (Some id) = is_some (get c.versions id) ≡ true

-- Holds if `read` is the state of the block.
pub record IsBlockRead (c : Content) (block : ℕ) (read : BlockRead) : Type 0 where
  pub code : option_map spid_of read.code_holder ≡ get c.codes (block_code_of block)
  pub row : option_map block_row_of read.row ≡ get c.blocks block
  pub last : IsLast c (last_id read.row) read.last
  pub numbers : AreInBlock c block read.numbers.items

-- Holds if the carriers of the command are known, and these are the clock's row and the state of
-- the block.
pub record IsBlockFound (c : Content) (is_known : Bool) (block : ℕ) (clock : ClockRow)
    (read : BlockRead) : Type 0 where
  pub known : is_known ≡ true
  pub clock_is : c.clock ≡ Some clock
  pub is_read : IsBlockRead c block read

-- Holds if the refusal is `UnknownCarrier` and the carriers are not known, or it is no refusal of
-- the machine's.
abbrev pub IsBlockLookupRefused : (is_known : Bool) → Refusal → Type 0
IsBlockLookupRefused is_known r = ((r ≡ UnknownCarrier) × (is_known ≡ false))
    ⊎ (nat_lt (number_of r) 29 ≡ false)

-- Whether the routing number, if the command names one, belongs to the carrier that calls are to be
-- routed to.
abbrev pub is_routing_good : Content → (caller : ℕ) → Command → Bool
is_routing_good c caller (Donate block used lrn cic) = is_the caller (get c.lrns lrn)
is_routing_good c caller (Assign block holder lrn cic) = is_the holder (get c.lrns lrn)
is_routing_good c caller (Release block) = true
is_routing_good c caller (SetWindows windows) = true
is_routing_good c caller (RegisterCarrier spid) = true
is_routing_good c caller (RegisterRoutingNumber lrn) = true
is_routing_good c caller (OpenCode code spid) = true
is_routing_good c caller (OldProviderCreate tn old_provider new_provider due authorized) = true
is_routing_good c caller (NewProviderCreate tn old_provider new_provider due lrn cic) =
    is_the new_provider (get c.lrns lrn)
is_routing_good c caller (OnVersion id command) = true

-- Holds if the facts of the block are what was read, with these two values.
pub record AreBlockFacts (read : BlockRead) (is_lrn_good : Bool) (next : ℕ)
    (facts : BlockFacts) : Type 0 where
  pub code : facts.code_holder ≡ read.code_holder
  pub lrn : facts.is_lrn_good ≡ is_lrn_good
  pub donor : facts.donor ≡ option_map (λ (row : BlockRowImpl). row.donor) read.row
  pub last : facts.last ≡ option_map (λ e. e.1) read.last
  pub numbers : facts.numbers.now ≡ read.numbers.items
  pub next_id : facts.next_id ≡ next
