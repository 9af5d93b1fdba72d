-- The words for flaws.
use Rattle.std.specs.Prelude.{ℕ, List, ◌++◌, codes, decimal}
use Rattle.numbers.specs.Texts.{spid_text}
use Rattle.invariants.specs.declared.flaw.Flaw.{Flaw}
use Rattle.invariants.specs.declared.flaw.Flaw.TheVariants as flaw

abbrev pub about : (id : ℕ) → List ℕ → List ℕ
about id words = codes "version " ++ (decimal id ++ words)

abbrev pub download_words : (carrier : List ℕ) → (id attempt : ℕ) → List ℕ
download_words carrier id attempt =
    codes "attempt " ++ (decimal attempt ++ (codes " of version " ++ (decimal id
    ++ (codes " is pending for " ++ (carrier ++ codes ", but was not sent so")))))

abbrev pub flaw_words : Flaw → List ℕ
flaw_words (flaw.Gap id) = about id (codes " is missing")
flaw_words (flaw.Stranger id) = about id (codes " has an id that none has yet")
flaw_words (flaw.Set id) = about id (codes " holds a set of windows that is missing")
flaw_words (flaw.Since id) = about id (codes " entered its status after the minute")
flaw_words (flaw.Deadline id) = about id (codes " has another deadline than by its windows")
flaw_words (flaw.Holds id) = about id (codes " has a wrong value in holds")
flaw_words (flaw.Opens id) = about id (codes " has a wrong value in opens")
flaw_words (flaw.Sending id) = about id (codes " is sending without its broadcast")
flaw_words (flaw.Block id) = about id (codes " is not under its block")
flaw_words (flaw.InForce id other) =
    codes "versions " ++ (decimal id ++ (codes " and " ++ (decimal other
    ++ codes " are in force for one subject")))
flaw_words (flaw.Open id other) =
    codes "versions " ++ (decimal id ++ (codes " and " ++ (decimal other
    ++ codes " are open for one subject")))
flaw_words (flaw.Download spid id attempt) = download_words (spid_text spid.number) id attempt
