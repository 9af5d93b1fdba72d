-- A block's row names a version that has a row.
use Rattle.std.proofs.Common.{◌≡◌, ℕ, true, false, Option, Some, None, refl, ap, sym, ◌∙◌, subst}
use Rattle.std.specs.Prelude.{is_some, option_map}
use Rattle.std.specs.FinMap.{get}
use Rattle.numbers.specs.Subjects.{Subject, Block}
use Rattle.model.specs.Versions.{Version, last_version}
use Rattle.model.specs.History.{donor_of}
use Rattle.model.specs.State.{State, record_now}
use Rattle.model.specs.Concerns.{has_id}
use Rattle.model.specs.Content.{Content, BlockRow, VersionRow, Represents}
use Rattle.model.proofs.Lagging.{no_row_at}
use Rattle.settle.specs.declared.rows.BlockRow.{BlockRow as BlockRowImpl}
use Rattle.settle.specs.Abstraction.{block_row_of}
use Rattle.register.specs.Blocks.{IsRowThere, last_id}
use Rattle.model.proofs.Answered.{first_has_id}

-- The id that a row names.
abbrev pub named_by : Option BlockRow → Option ℕ
named_by None = None
named_by (Some row) = row.last

pub names_last : (o : Option BlockRowImpl) → last_id o ≡ named_by (option_map block_row_of o)
names_last None = refl
names_last (Some row) = refl

-- The id is that of the version made last, if the block is donated.
pub stored_last : (donor : Option ℕ) (last : Option ℕ)
    → named_by (option_map (λ d. record { donor = d; last = last }) donor)
    ≡ (elim donor [ Some d ↦ last | None ↦ None ])
stored_last None last = refl
stored_last (Some d) last = refl

-- A version of a record has a row.
pub row_is_there : (st : State) (c : Content) → Represents c st → (s : Subject) (id : ℕ)
    → has_id id (record_now st s).versions ≡ true → is_some (get c.versions id) ≡ true
row_is_there st c represents s id has = by_cases (get c.versions id) refl
  where
    by_cases : (o : Option VersionRow) → get c.versions id ≡ o → is_some o ≡ true
    by_cases (Some row) e = refl
    by_cases None e = let never : true ≡ false = sym has ∙ no_row_at st c represents id e s in cc

module _ (st : State) (c : Content) (represents : Represents c st) (block : ℕ)
    (row : Option BlockRowImpl) (is : option_map block_row_of row ≡ get c.blocks block) where
  -- What the row names.
  pub named_is : last_id row
      ≡ (elim (donor_of block st.history) [
        | Some d ↦ option_map (λ (v : Version). v.id)
            (last_version (record_now st (Block block)))
        | None ↦ None
      ])
  named_is = names_last row ∙ ap named_by (is ∙ represents.blocks block)
      ∙ stored_last (donor_of block st.history) (option_map (λ (v : Version). v.id)
      (last_version (record_now st (Block block))))

  pub last_is_there : IsRowThere c (last_id row)
  last_is_there =
      subst (IsRowThere c) (sym named_is) (by_cases (donor_of block st.history)
      (last_version (record_now st (Block block))) refl)
    where
      by_cases : (donor : Option ℕ) (o : Option Version)
          → last_version (record_now st (Block block)) ≡ o
          →
          IsRowThere c (elim donor [ Some d ↦ option_map (λ (v : Version). v.id) o | None ↦ None ])
      by_cases None o e = tt
      by_cases (Some d) None e = tt
      by_cases (Some d) (Some v) e =
          row_is_there st c represents (Block block) v.id
          (first_has_id (record_now st (Block block)).versions v e)
