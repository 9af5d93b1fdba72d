use Rattle.std.proofs.Common.{IsTrue, rules, sym, ap, ◌∙◌, inl, inr}
use Rattle.sqlite.specs.Effect.{Database}
use Rattle.sqlite.specs.Held.{state}
use Rattle.sql_rows.specs.Migration.{schema_of}
use Rattle.sql_rows.specs.Tables.{no_schema, the_schema}
use Rattle.sql_store.proofs.OpeningLemmas.{never_windows, sound_as, taken_found, taken_moved, taken_new}
use Rattle.sql_store.proofs.store.SqlStore.opened.Goals as goal

pub returns-in-Ok-clause-taken : goal.returns-in-Ok-clause-taken
returns-in-Ok-clause-taken g c = λ clean.
    let s = state g.S.Store c.args.conn in
    let was = c.requires.opened (c.in-Ok.ensures.honest clean) in
    let has = sym c.schema.ensures.value ∙ c.in-Some.ensures in
    taken_moved _ _ _ c.in-Some.schema_version (sound_as s was (schema_of c.in-Some.schema_version)
    has)
    (c.in-Ok.ensures.moved (c.in-Ok.ensures.«open» clean))

pub returns-in-Err-clause-refused : goal.returns-in-Err-clause-refused
returns-in-Err-clause-refused g c = λ clean.
    let s = state g.S.Store c.args.conn in
    let was = c.requires.opened (c.in-Err.ensures.err_honest clean) in
    let has = sym c.schema.ensures.value ∙ c.in-Some.ensures in
    let sound = sound_as s was (schema_of c.in-Some.schema_version) has in
    record {
      kept = λ lists stands. c.in-Err.ensures.err stands.0 stands.1;
      crash = λ lists clean db may. elim (c.in-Err.ensures.crash clean db may) [
        | inl before ↦ inl (g.met.S.Store.settled c.args.conn.store db was.opens.is_open before
            ∙ sym (ap (λ (d : Database). d.trees) was.opens.clean))
        | inr moved ↦ inr (c.in-Some.schema_version, sound, moved)
      ];
      differ = λ told stands. record {
        form = c.in-Some.schema_version;
        sound = sound;
        others = c.in-Err.ensures.differ told stands.0 stands.1;
      };
    }

pub returns-in-Ok-create-clause-taken : goal.returns-in-Ok-create-clause-taken
returns-in-Ok-create-clause-taken g c = λ clean.
    let s = state g.S.Store c.args.conn in
    let was = c.requires.opened (c.in-Ok-create.ensures.honest clean) in
    let ok : IsTrue c.is_blank.result = search rules in
    let has = sym c.schema-2.ensures.value ∙ c.is_blank.ensures.yes ok in
    taken_new _ _ _ (sound_as s was no_schema has) (c.in-Ok-create.ensures.content clean)
    (c.in-Ok-create.ensures.whole clean)

pub returns-in-Err-create-clause-refused : goal.returns-in-Err-create-clause-refused
returns-in-Err-create-clause-refused g c = λ clean.
    let s = state g.S.Store c.args.conn in
    let was = c.requires.opened (c.in-Err-create.ensures.err_honest clean) in
    let ok : IsTrue c.is_blank.result = search rules in
    let has = sym c.schema-2.ensures.value ∙ c.is_blank.ensures.yes ok in
    let none = sound_as s was no_schema has in
    record {
      kept = λ lists. absurd (lists none);
      crash = λ lists. absurd (lists none);
      differ = λ told. absurd (never_windows c.in-Err-create.fault (sym c.from.ensures ∙ told));
    }

pub returns-in-Ok-found-clause-taken : goal.returns-in-Ok-found-clause-taken
returns-in-Ok-found-clause-taken g c = λ clean.
    let s = state g.S.Store c.args.conn in
    let was = c.requires.opened (c.in-Ok-found.ensures.honest clean) in
    taken_found _ _ _ (sound_as s was the_schema c.in-Ok-found.ensures.ours)
    (c.in-Ok-found.ensures.now clean) (c.in-Ok-found.ensures.whole clean)
    (c.in-Ok-found.ensures.begun clean)

pub returns-in-Err-found-clause-refused : goal.returns-in-Err-found-clause-refused
returns-in-Err-found-clause-refused g c = λ clean.
    let s = state g.S.Store c.args.conn in
    let was = c.requires.opened (c.in-Err-found.ensures.err_honest clean) in
    record {
      kept = λ lists stands. c.in-Err-found.ensures.err stands;
      crash = λ lists clean db may. inl (g.met.S.Store.settled c.args.conn.store db
          was.opens.is_open (c.in-Err-found.ensures.crash clean db may)
          ∙ sym (ap (λ (d : Database). d.trees) was.opens.clean));
      differ = λ told. absurd (never_windows c.in-Err-found.fault (sym c.from-in-Err-found.ensures
          ∙ told));
    }
