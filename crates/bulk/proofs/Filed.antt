-- A file, its header and its report.
use Rattle.std.proofs.Common.{◌≡◌, ℕ, List, [], ◌∷◌, Option, Some, None, IfSome, Result, Err, inl, inr, refl, sym, subst, ◌∙◌}
use Rattle.std.specs.Prelude.{◌⊎◌}
use Rattle.std.proofs.KnownBytes.{Appends-nil}
use Rattle.model.specs.Content.{Content}
use Rattle.model.specs.State.{State}
use Rattle.register.specs.Refinement.{Refines}
use Rattle.http_messages.specs.Sending.{AppendsPrefix}
use Rattle.bulk.specs.Faults.{IsUnread}
use Rattle.bulk.specs.Requests.{header}
use Rattle.bulk.specs.Report.{report_header}
use Rattle.bulk.specs.Rows.{Row, AreRowsOf}
use Rattle.bulk.specs.Running.{LacksHeader, Reports, ReportsUntil, RunsFile, RunsFileUntil}
use Rattle.bulk.specs.declared.fault.BulkFault.{BulkFault}
use Rattle.bulk.specs.declared.fault.FaultKind.{FaultKind}
use Rattle.bulk.specs.declared.fault.FaultKind.TheVariants.{BadHeader, Write}

pub known : (o : Option (List ℕ)) (P : List ℕ → Type 0) → ((bytes : List ℕ) → o ≡ Some bytes
    → P bytes) → IfSome o P
known None P f = tt
known (Some bytes) P f = f bytes refl

-- The first row is another one.
pub other_first : (rows more : List Row) (raw : Row) → rows ≡ raw ∷ more → (raw ≡ header → ⊥)
    → LacksHeader rows
other_first rows more raw e other = λ others same. other cc

pub no_first : (rows : List Row) → rows ≡ [] → LacksHeader rows
no_first rows e = λ others same. let x : ⊥ = cc in x

pub no_first_read : {K U : Type 0} (has : List Row → Type 0)
    → (K × ((rows : List Row) → has rows → rows ≡ [])) ⊎ U
    → (K × ((rows : List Row) → has rows → LacksHeader rows)) ⊎ U
no_first_read has (inl (k, none)) = inl (k, λ rows h. no_first rows (none rows h))
no_first_read has (inr u) = inr u

-- The report's header broke off.
pub header_broken : (st : State) (rows : List Row) (new : Content) (had has : Option (List ℕ))
    (fault : BulkFault) → fault.kind ≡ Write → fault.rows ≡ 0 → Refines new st
    → AppendsPrefix had has report_header → Reports st rows new had has (Err fault)
header_broken st rows new had has fault kind none s sent = inr (record {
  kind = kind;
  rows = none;
  refines = s;
  part = sent.0;
  sent = sent.2;
})

-- Nothing was run.
pub nothing_run :
    (st : State) (bytes : List ℕ) (new : Content) (had : Option (List ℕ)) (fault : BulkFault)
    → fault.rows ≡ 0 → Refines new st →
    ((fault.kind ≡ BadHeader) × ((rows : List Row) × AreRowsOf bytes rows × LacksHeader rows))
    ⊎ IsUnread fault.kind → RunsFile st bytes new had had (Err fault)
nothing_run st bytes new had fault none s why = inr (record {
  rows = none;
  refines = s;
  sent = Appends-nil had;
  why = why;
})

pub file_run :
    (st : State) (bytes : List ℕ) (new : Content) (had has : Option (List ℕ))
    (result : Result ℕ BulkFault) (rows others : List Row) → AreRowsOf bytes rows
    → rows ≡ header ∷ others →
    Reports st others new had has result → RunsFile st bytes new had has result
file_run st bytes new had has result rows others are e reports = let P : List Row → Type 0 =
    λ rs. AreRowsOf bytes rs in inl (others, subst P e are, reports)

pub file_until :
    (st : State) (bytes : List ℕ) (had has : Option (List ℕ)) (result : Result ℕ BulkFault)
    (rows others : List Row) → AreRowsOf bytes rows → rows ≡ header ∷ others →
    ReportsUntil st others had has result → RunsFileUntil st bytes had has result
file_until st bytes had has result rows others are e until = let P : List Row → Type 0 =
    λ rs. AreRowsOf bytes rs in (others, subst P e are, until)

-- The reason why nothing was run, by some rows of the file.
pub why_not :
    (kind said : FaultKind) (bytes : List ℕ) (rows : List Row) → AreRowsOf bytes rows
    → (Has : List Row → Type 0) → Has rows → said ≡ kind →
    ((kind ≡ BadHeader) × ((rs : List Row) → Has rs → LacksHeader rs)) ⊎ IsUnread kind →
    ((said ≡ BadHeader) × ((rs : List Row) × AreRowsOf bytes rs × LacksHeader rs)) ⊎ IsUnread said
why_not kind said bytes rows are Has has e (inl h) = inl (e ∙ h.0, (rows, are, h.1 rows has))
why_not kind said bytes rows are Has has e (inr h) = inr (subst IsUnread (sym e) h)
