use Rattle.std.proofs.Common.{inl, inr, refl, IfSome, sym, subst, ◌≡◌, ℕ, List, Some}
use Rattle.model.specs.declared.refusal.Refusal.TheVariants.{NoMemory}
use Rattle.json_api.specs.Forms.{HasForm, api_call_model, json_of}
use Rattle.json_api.proofs.RefusalLemmas.{text_by_number}
use Rattle.api.proofs.StepLemmas.{calls_carried}
use Rattle.api.specs.Crashes.{LeavesCall, LeavesDispatched}
use Rattle.api.specs.Step.{BodyAsks}
use Rattle.api.proofs.Left.{asks_body, dispatched, left_as}
use Rattle.api.proofs.call.answer_fields.Goals as goal

pub returns-in-Err-clause-calls : goal.returns-in-Err-clause-calls
returns-in-Err-clause-calls g c =
    λ u body is st s. (st, inl (inr (text_by_number NoMemory), refl), s)

pub returns-in-Ok-Some-clause-calls : goal.returns-in-Ok-Some-clause-calls
returns-in-Ok-Some-clause-calls g c = λ u body is st s.
    calls_carried (g.S.StoreModel.failed c.args.register.now.store)
    (g.S.StoreModel.failed c.answer_asked.new.register.store)
    (g.S.StoreModel.content c.answer_asked.new.register.store)
    st c.args.route c.args.caller.number body (g.F.Fields.value c.args.fields.now)
    (api_call_model c.in-Ok-Some.asked) _
    (sym is)
    (subst (λ read. IfSome read (λ asked. HasForm c.args.route (g.F.Fields.value c.args.fields.now)
    (api_call_model asked))) c.in-Ok-Some.field-0-is
    c.in-Ok-Some.ensures.some) (c.answer_asked.ensures.performs u st s)

pub returns-in-Ok-Some-clause-left : goal.returns-in-Ok-Some-clause-left
returns-in-Ok-Some-clause-left g c =
    let old = g.S.StoreModel.content c.args.register.now.store in
    let caller = c.args.caller.number in
    let asked = api_call_model c.in-Ok-Some.asked in
    let given = g.F.Fields.value c.args.fields.now in
    let form = subst (λ read. IfSome read (λ call. HasForm c.args.route given
    (api_call_model call))) c.in-Ok-Some.field-0-is c.in-Ok-Some.ensures.some in
    left_as g.S.StoreModel c.args.register.now.store c.answer_asked.new.register.store
    (λ m. LeavesCall old m caller asked)
    (λ m. (body : List ℕ) → json_of body ≡ Some given
    → LeavesDispatched old m (BodyAsks c.args.route body) caller) c.answer_asked.ensures.left
    (λ m leaves body is. dispatched old m (BodyAsks c.args.route body) caller asked
    (asks_body c.args.route body given asked (sym is) form) leaves)
