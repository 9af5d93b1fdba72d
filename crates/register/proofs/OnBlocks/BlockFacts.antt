-- The facts read of a block are those of the state.
use Rattle.std.proofs.Common.{◌≡◌, ℕ, Bool, true, false, not, ◌||◌, List, [], ◌∷◌, Option, Some, None, refl, ap, sym, ◌∙◌, subst, inl}
use Rattle.std.specs.Prelude.{option_map}
use Rattle.std.specs.FinMap.{get}
use Rattle.numbers.specs.Digits.{block_code_of}
use Rattle.numbers.specs.Subjects.{Subject, Block}
use Rattle.model.specs.Versions.{Version, last_version, first_of_versions}
use Rattle.model.specs.Commands.{Command, Donate, Assign, Release}
use Rattle.model.specs.Conditions.{is_the}
use Rattle.model.specs.History.{donor_of, lrn_owner}
use Rattle.model.specs.State.{State, record_now, set_now}
use Rattle.model.specs.Refusals.{holds_at, own_tests}
use Rattle.model.specs.Content.{Content, BlockRow, ClockRow, row_of}
use Rattle.model.proofs.Lists.{Among}
use Rattle.numbers.proofs.Small.{some_is}
use Rattle.model.proofs.Entered.{subject_eq-refl}
use Rattle.model.proofs.Protected.{undonated}
use Rattle.model.proofs.Copies.Queue.{found_by_id}
use Rattle.version.specs.declared.version.Version.{Version as VersionImpl}
use Rattle.version.specs.Facts.{HasModelIfAny}
use Rattle.version.specs.Abstraction.{version_of}
use Rattle.settle.specs.declared.rows.BlockRow.{BlockRow as BlockRowImpl}
use Rattle.settle.specs.Settling.{IsSettled}
use Rattle.settle.specs.Abstraction.{block_row_of, version_row_of}
use Rattle.settle.proofs.KeptRows.{row_there}
use Rattle.pool.specs.declared.facts.BlockFacts.{BlockFacts}
use Rattle.pool.specs.Blocks.{BlockFactsMatch, NumbersMatch}
use Rattle.pool.specs.Facts.{carrier_number, has_open_port}
use Rattle.register.specs.Refinement.{Refines}
use Rattle.register.specs.Blocks.{IsBlockRead, AreBlockFacts, IsLast, last_id, is_routing_good}
use Rattle.register.specs.Settling.{is_of_block}
use Rattle.register.specs.declared.blocks.BlockRead.{BlockRead}
use Rattle.register.proofs.OnBlocks.BlockRow.{named_is}
use Rattle.register.proofs.OnBlocks.BlockNumbers.{numbers_are, ports_are}
use Rattle.register.proofs.OnVersions.OnVersion.{clock_is_of}
use Rattle.register.proofs.OnVersions.RowVersion.{row_version}

-- ---- the donor

abbrev donor_in : Option BlockRow → Option ℕ
donor_in o = option_map (λ (row : BlockRow). row.donor) o

donor_read : (o : Option BlockRowImpl)
    → carrier_number (option_map (λ (row : BlockRowImpl). row.donor) o)
    ≡ donor_in (option_map block_row_of o)
donor_read None = refl
donor_read (Some row) = refl

donor_stored : (donor last : Option ℕ)
    → donor_in (option_map (λ d. record { donor = d; last = last }) donor) ≡ donor
donor_stored None last = refl
donor_stored (Some d) last = refl

-- ---- the routing number

not_not : (b : Bool) → b ≡ not (not b)
not_not true = refl
not_not false = refl

-- Whether the command is one on a block.
abbrev pub is_on_block : Command → Bool
is_on_block (Donate block used lrn cic) = true
is_on_block (Assign block holder lrn cic) = true
is_on_block (Release block) = true
is_on_block _ = false

-- The routing number of the command.
pub routing_is : (st : State) (c : Content) → Refines c st → (caller : ℕ) (command : Command)
    → is_on_block command ≡ true
    → is_routing_good c caller command ≡ not (holds_at 7 (own_tests st caller command))
routing_is st c refines caller (Donate block used lrn cic) on =
    ap (is_the caller) (refines.represents.lrns lrn)
    ∙ not_not (is_the caller (lrn_owner lrn st.history))
routing_is st c refines caller (Assign block holder lrn cic) on =
    ap (is_the holder) (refines.represents.lrns lrn)
    ∙ not_not (is_the holder (lrn_owner lrn st.history))
routing_is st c refines caller (Release block) on = refl
routing_is st c refines caller _ on = cc

-- ---- the version made last

pub first_among : (vs : List Version) (v : Version) → first_of_versions vs ≡ Some v → Among v vs
first_among [] v is = cc
first_among (u ∷ us) v is = inl (sym (some_is u v is))

module _ (st : State) (c : Content) (refines : Refines c st) (block : ℕ) (settled : (s : Subject)
    → is_of_block block st s ≡ true → IsSettled c st s) where
  pub block_due : IsSettled c st (Block block)
  block_due = settled (Block block) (ap (λ b. b || false) (subject_eq-refl (Block block)))

  -- The version read by the id of the version made last.
  seen_by_id : (v : Version) → last_version (record_now st (Block block)) ≡ Some v
      → (e : Option (ℕ × VersionImpl)) → IsLast c (Some v.id) e
      → HasModelIfAny (option_map (λ p. p.1) e) (Some v)
  seen_by_id v last None is = absurd is
  seen_by_id v last (Some e) is =
      let there = row_there (set_now st) (Block block) c (record_now st (Block block))
      block_due.rows_match v.id v
      (found_by_id st refines.represents.history (Block block) v
      (first_among (record_now st (Block block)).versions v last)) in
      ap (λ (u : VersionImpl). version_of v.id v.broadcasts v.held.windows u) (sym is.3)
      ∙ row_version (Block block) v is.1 (some_is (version_row_of is.1) (row_of (Block block) v)
      (sym is.2 ∙ there))

  none_by_id : (e : Option (ℕ × VersionImpl)) → IsLast c None e
      → HasModelIfAny (option_map (λ p. p.1) e) None
  none_by_id None is = tt
  none_by_id (Some e) is = absurd is

  last_seen : (row : Option BlockRowImpl) (e : Option (ℕ × VersionImpl))
      → option_map block_row_of row ≡ get c.blocks block → IsLast c (last_id row) e →
      HasModelIfAny (option_map (λ p. p.1) e) (last_version (record_now st (Block block)))
  last_seen row e is last =
      by_cases (donor_of block st.history) refl (last_version (record_now st (Block block))) refl
      (subst (λ o. IsLast c o e) (named_is st c refines.represents block row is) last)
    where
      by_cases : (donor : Option ℕ) → donor_of block st.history ≡ donor → (o : Option Version)
          → last_version (record_now st (Block block)) ≡ o →
          IsLast c (elim donor [ Some d ↦ option_map (λ (v : Version). v.id) o | None ↦ None ]) e
          → HasModelIfAny (option_map (λ p. p.1) e) o
      by_cases None f o g by =
          let none : last_version (record_now st (Block block)) ≡ None =
          ap first_of_versions (undonated st.windows block st.history st.now
          refines.represents.history f) in
          subst (HasModelIfAny (option_map (λ p. p.1) e)) (sym none ∙ g) (none_by_id e by)
      by_cases (Some d) f None g by = none_by_id e by
      by_cases (Some d) f (Some v) g by = seen_by_id v g e by

  -- ---- all facts

  module _ (read : BlockRead) (is : IsBlockRead c block read) (clock : ClockRow) (clock_is : c.clock
      ≡ Some clock) (caller : ℕ) (command : Command) (facts : BlockFacts)
      (are : AreBlockFacts read (is_routing_good c caller command) clock.next_id facts)
      (on_block : is_on_block command ≡ true) where
    pub block_facts_are : BlockFactsMatch st caller block command facts
    block_facts_are = record {
      code = ap carrier_number are.code ∙ is.code ∙ refines.represents.codes (block_code_of block);
      lrn = are.lrn ∙ routing_is st c refines caller command on_block;
      donor = ap carrier_number are.donor ∙ donor_read read.row
          ∙ ap donor_in (is.row ∙ refines.represents.blocks block)
          ∙ donor_stored (donor_of block st.history) (option_map (λ (v : Version). v.id)
          (last_version (record_now st (Block block))));
      last = subst (λ o. HasModelIfAny o (last_version (record_now st (Block block))))
          (sym are.last)
          (last_seen read.row read.last is.row is.last);
      ports = ap has_open_port are.numbers ∙ ports_are st c refines block settled read.numbers.items
          is.numbers;
      next_id = are.next_id ∙ ap (λ (k : ClockRow). k.next_id)
          (clock_is_of c st clock refines.represents clock_is);
    }

    pub facts_numbers_are : NumbersMatch st block facts.numbers.now
    facts_numbers_are =
        subst (NumbersMatch st block) (sym are.numbers) (numbers_are st c refines block settled
        read.numbers.items is.numbers)
