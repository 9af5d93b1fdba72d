use Rattle.std.proofs.Common.{◌≡◌, ℕ, Bool, true, arith, inl, inr, map, List, [], Option, Some, None, option_map, refl, sym, ◌∙◌, ap, subst}
use Rattle.clap.specs.Words.{App, Row, Text, is_simple, found_of, rows_of, subcommand_of, subcommand_rows}
use Rattle.std.specs.Prelude.{Box, ◌≢◌, ◌⊎◌}
use Rattle.std.specs.Box.{box_value}
use Rattle.clap.specs.declared.parser.matches.SubCommand.{SubCommand}
use Rattle.clap.specs.declared.parser.matches.ArgMatches.TheViews.{out-ArgMatches, out-SubCommand}
use Rattle.clap.proofs.OnLiterals.{clap_on_literals}
use Rattle.clap.specs.Faults.{fault_of, is_simple_and_free}
use Rattle.clap.specs.Kinds.{HasKind, IsAmong, Kinds}
use Rattle.clap.specs.Values.{kind_of}
use Rattle.clap.specs.declared.error.Error.{Error}
use Rattle.clap.specs.declared.error.kind.ErrorKind.TheVariants as kind
use Rattle.command_line.specs.CommandLine.{IsNoLine, IsNoParsedOf, IsParsedOf, npacd_app, wants_present}
use Rattle.command_line.specs.Usage.{IsRefused, mistake_text}
use Rattle.command_line.proofs.FirstWord.{no_line, rows_are_parsed}
use Rattle.command_line.proofs.parse.parse.Goals as goal

simple : (present : Bool) → is_simple (npacd_app present) ≡ true
unfolding clap_on_literals
simple present = refl

free : (present : Bool) → is_simple_and_free (npacd_app present) ≡ true
unfolding clap_on_literals
free present = refl

abbrev Pair : Type 0
Pair = Text × List Row

both : {Z : Type 0} (x : Option (Box SubCommand Z)) (n : Text) (rs : List Row)
    → Some n ≡ option_map (λ b. (out-SubCommand (box_value b)).name.now) x
    → Some rs ≡ option_map (λ (p : Pair). p.1) (subcommand_rows x)
    → subcommand_rows x ≡ Some (n, rs)
both None n rs a b = cc
both (Some x) n rs a b = cc

-- The words name the subcommand that was found.
named : {Z : Type 0} (present : Bool) (words : List Text) (x : Option (Box SubCommand Z))
    (n : Text) (rs : List Row)
    → subcommand_rows x ≡ subcommand_of (npacd_app present) words
    → Some n ≡ option_map (λ b. (out-SubCommand (box_value b)).name.now) x
    → Some rs ≡ option_map (λ (p : Pair). p.1) (subcommand_rows x)
    → subcommand_of (npacd_app present) words ≡ Some (n, rs)
named present words x n rs found a b = sym found ∙ both x n rs a b

pub returns-in-Ok-parsed_of-clause-line : goal.returns-in-Ok-parsed_of-clause-line
returns-in-Ok-parsed_of-clause-line g c =
    let wanted = c.wants_present-present.ensures in
    let e = c.in-Ok.ensures ∙ ap npacd_app wanted in
    let words = map g.S.AsStr.text c.args.words.now in
    let present = wants_present words in
    let second = c.if-is_second.ensures.0 refl in
    let shown = named present words (out-ArgMatches c.in-Ok-try_get_matches_from.matches).subcommand
    c.in-Some.name.now (rows_of (found_of c.in-Some.found.now))
    ((c.in-Ok-try_get_matches_from.ensures.matches (ap is_simple e ∙ simple present)).1
    ∙ ap (λ (a : App). subcommand_of a words) e) c.in-Some.ensures.name c.in-Some.ensures.rows in
    let P : List Text → Type 0 =
    λ ws. subcommand_of (npacd_app present) ws
    ≡ Some (c.in-Some.name.now, rows_of (found_of c.in-Some.found.now)) in
    let given = subst (λ (p : Bool). IsParsedOf p c.in-Some.name.now
    (rows_of (found_of c.in-Some.found.now)) c.in-Ok-parsed_of.parsed) wanted
    c.in-Ok-parsed_of.ensures.given in
    record {
      accepted = subst (λ (a : App). fault_of a words ≡ []) e
          (c.in-Ok-try_get_matches_from.ensures.kinds (ap is_simple_and_free e ∙ free present));
      program = second.0;
      name = c.in-Some.name.now;
      after = second.1;
      rows = rows_of (found_of c.in-Some.found.now);
      words_are = second.2;
      rows_are = rows_are_parsed present second.0 c.in-Some.name.now second.1
          (rows_of (found_of c.in-Some.found.now)) (rows_of (found_of c.in-Some.found.now))
          c.in-Ok-parsed_of.parsed given (subst P second.2 shown);
      line_is = given;
    }

pub returns-in-Some-clause-refused : goal.returns-in-Some-clause-refused
returns-in-Some-clause-refused g c =
    let wanted = c.wants_present-present.ensures in
    let e = c.in-Ok.ensures ∙ ap npacd_app wanted in
    let words = map g.S.AsStr.text c.args.words.now in
    let present = wants_present words in
    let second = c.if-is_second.ensures.0 refl in
    let shown = named present words (out-ArgMatches c.in-Ok-try_get_matches_from.matches).subcommand
    c.in-Some.name.now (rows_of (found_of c.in-Some.found.now))
    ((c.in-Ok-try_get_matches_from.ensures.matches (ap is_simple e ∙ simple present)).1
    ∙ ap (λ (a : App). subcommand_of a words) e) c.in-Some.ensures.name c.in-Some.ensures.rows in
    let P : List Text → Type 0 =
    λ ws. subcommand_of (npacd_app present) ws
    ≡ Some (c.in-Some.name.now, rows_of (found_of c.in-Some.found.now)) in
    let rows = rows_of (found_of c.in-Some.found.now) in
    let none = no_line present second.0 c.in-Some.name.now second.1 rows (subst P second.2 shown)
    (ap wants_present second.2) (subst (λ (p : Bool). IsNoParsedOf p c.in-Some.name.now rows) wanted
    c.in-Err-parsed_of.ensures.none) in
    λ status line. subst IsNoLine (sym second.2) none line

pub returns-in-Some-clause-mistake : goal.returns-in-Some-clause-mistake
returns-in-Some-clause-mistake g c =
    let wanted = c.wants_present-present.ensures in
    let e = c.in-Ok.ensures ∙ ap npacd_app wanted in
    let words = map g.S.AsStr.text c.args.words.now in
    let present = wants_present words in
    let second = c.if-is_second.ensures.0 refl in
    let shown = named present words (out-ArgMatches c.in-Ok-try_get_matches_from.matches).subcommand
    c.in-Some.name.now (rows_of (found_of c.in-Some.found.now))
    ((c.in-Ok-try_get_matches_from.ensures.matches (ap is_simple e ∙ simple present)).1
    ∙ ap (λ (a : App). subcommand_of a words) e) c.in-Some.ensures.name c.in-Some.ensures.rows in
    let P : List Text → Type 0 =
    λ ws. subcommand_of (npacd_app present) ws
    ≡ Some (c.in-Some.name.now, rows_of (found_of c.in-Some.found.now)) in
    let rows = rows_of (found_of c.in-Some.found.now) in
    let none = no_line present second.0 c.in-Some.name.now second.1 rows (subst P second.2 shown)
    (ap wants_present second.2) (subst (λ (p : Bool). IsNoParsedOf p c.in-Some.name.now rows) wanted
    c.in-Err-parsed_of.ensures.none) in
    let accepted = subst (λ (a : App). fault_of a words ≡ []) e
    (c.in-Ok-try_get_matches_from.ensures.kinds (ap is_simple_and_free e ∙ free present)) in
    λ two. inr (
      (accepted, λ line. subst IsNoLine (sym second.2) none line),
      c.no_line.ensures.text two
          ∙ (ap (λ (p : Bool). mistake_text p c.wants_snapshot.result) wanted
          ∙ ap (mistake_text present) c.wants_snapshot.ensures),
    )

-- Words that `clap` refuses are no command line.
faulty : (words : List Text) (error : Error) (status : ℕ) → status ≢ 3
    → (kind_of error ≡ kind.OutOfMemory → status ≡ 3) → HasKind (fault_of (npacd_app
    (wants_present words)) words) error
    → IsNoLine words
faulty words error status other memory (inl none) line is = other (memory none)
faulty words error status other memory (inr among) line is =
    subst (λ (kinds : Kinds). IsAmong (kind_of error) kinds) is.accepted among

pub returns-in-Err-try_get_matches_from-clause-refused : goal.returns-in-Err-try_get_matches_from-clause-refused
returns-in-Err-try_get_matches_from-clause-refused g c = λ status line.
    let words = map g.S.AsStr.text c.args.words.now in
    let error = c.in-Err-try_get_matches_from.error in
    let e = c.in-Ok.ensures ∙ ap npacd_app c.wants_present-present.ensures in
    let has = c.in-Err-try_get_matches_from.ensures.kinds (ap is_simple_and_free e
    ∙ free (wants_present words)) in
    faulty words error c.usage_of.result.status status c.usage_of.ensures.memory
    (subst (λ (a : App). HasKind (fault_of a words) error) e has) line

-- A usage of status 2 implies that `clap` refuses the words.
refuses : (words : List Text) (error : Error) (status : ℕ) → status ≡ 2
    → (kind_of error ≡ kind.OutOfMemory → status ≡ 3)
    → (kind_of error ≢ kind.DisplayHelp) × (kind_of error ≢ kind.DisplayVersion)
    → HasKind (fault_of (npacd_app (wants_present words)) words) error → IsRefused words
refuses words error status two memory other (inl none) = let three = memory none in
    absurd (omega (arith, two, three))
refuses words error status two memory other (inr among) =
    (kind_of error, among, other.0, other.1)

pub returns-in-Err-try_get_matches_from-clause-mistake : goal.returns-in-Err-try_get_matches_from-clause-mistake
returns-in-Err-try_get_matches_from-clause-mistake g c = λ two.
    let words = map g.S.AsStr.text c.args.words.now in
    let error = c.in-Err-try_get_matches_from.error in
    let e = c.in-Ok.ensures ∙ ap npacd_app c.wants_present-present.ensures in
    let has = c.in-Err-try_get_matches_from.ensures.kinds (ap is_simple_and_free e
    ∙ free (wants_present words)) in
    inl (refuses words error c.usage_of.result.status two c.usage_of.ensures.memory
    (c.usage_of.ensures.mistake two)
    (subst (λ (a : App). HasKind (fault_of a words) error) e has))

-- A usage of status 0 implies that the words ask for help, by the rule of `clap`.
asks : (kinds : Kinds) (error : Error) (status : ℕ) → status ≡ 0 → (kind_of error ≡ kind.OutOfMemory
    → status ≡ 3) → HasKind kinds error → (kind_of error ≡ kind.DisplayHelp)
    ⊎ (kind_of error ≡ kind.DisplayVersion) →
    IsAmong kind.DisplayHelp kinds ⊎ IsAmong kind.DisplayVersion kinds
asks kinds error status zero memory (inl none) reported = let three = memory none in
    absurd (omega (arith, zero, three))
asks kinds error status zero memory (inr among) (inl help) =
    inl (subst (λ k. IsAmong k kinds) help among)
asks kinds error status zero memory (inr among) (inr version) =
    inr (subst (λ k. IsAmong k kinds) version among)

pub returns-in-Err-try_get_matches_from-clause-help : goal.returns-in-Err-try_get_matches_from-clause-help
returns-in-Err-try_get_matches_from-clause-help g c = λ zero.
    let words = map g.S.AsStr.text c.args.words.now in
    let error = c.in-Err-try_get_matches_from.error in
    let e = c.in-Ok.ensures ∙ ap npacd_app c.wants_present-present.ensures in
    let has = c.in-Err-try_get_matches_from.ensures.kinds (ap is_simple_and_free e
    ∙ free (wants_present words)) in
    asks (fault_of (npacd_app
    (wants_present words)) words) error c.usage_of.result.status zero c.usage_of.ensures.memory
    (subst (λ (a : App). HasKind (fault_of a words) error) e has)
    (c.usage_of.ensures.help zero)
