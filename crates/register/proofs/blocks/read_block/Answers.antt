use Rattle.std.proofs.Common.{rules, arith, ◌≡◌, Err, option_map, sym, ap, ◌∙◌, subst}
use Rattle.std.specs.FinMap.{get}
use Rattle.settle.proofs.Risen.{risen-since}
use Rattle.settle.specs.Abstraction.{block_row_of}
use Rattle.settle.specs.declared.store.StoreFault.TheVariants.{Storage}
use Rattle.register.specs.Blocks.{IsRowThere, last_id}
use Rattle.register.proofs.OnBlocks.BlockRow.{last_is_there}
use Rattle.register.proofs.blocks.read_block.Goals as goal

pub returns-in_err-last-clause-read_only : goal.returns-in_err-last-clause-read_only
returns-in_err-last-clause-read_only g c = record {
  same = λ usable.
      let at_row = c.last_made.ensures.read_only.same usable in
      let at_code = c.block.ensures.looks_up.read_only.same at_row.0 in
      let first = c.code-2.ensures.looks_up.read_only.same at_code.0 in
      (first.0, at_row.1 ∙ at_code.1 ∙ first.1);
  honest = search rules;
  begins = search rules;
  ends = search rules;
  stays = search rules;
  rises = let a = c.code-2.ensures.looks_up.read_only.rises in let b =
      c.block.ensures.looks_up.read_only.rises in
      let d =
      c.last_made.ensures.read_only.rises in omega arith;
  storage = λ says.
      let at_row = c.last_made.ensures.read_only.same says.usable in
      let at_code = c.block.ensures.looks_up.read_only.same at_row.0 in
      let first = c.code-2.ensures.looks_up.read_only.same at_code.0 in
      let read : option_map block_row_of c.in_ok-row.row
      ≡ get (g.S.StoreModel.content c.args.store.now).blocks c.args.block.number =
      c.in_ok-row.ensures.value at_row.0 ∙ ap (λ m. get m.blocks c.args.block.number) first.1 in
      let there : IsRowThere (g.S.StoreModel.content c.block.new.self) c.last_id.result =
      subst (λ o. IsRowThere (g.S.StoreModel.content c.block.new.self) o) (sym c.last_id.ensures)
      (subst (λ m. IsRowThere m (last_id c.in_ok-row.row)) (sym (at_code.1 ∙ first.1))
      (last_is_there says.st (g.S.StoreModel.content c.args.store.now) says.represents
      c.args.block.number c.in_ok-row.row read)) in
      let said : c.last_made.result ≡ Err Storage = let s = says.says in search (rules, s) in
      let a = c.code-2.ensures.looks_up.read_only.rises in let b =
      c.block.ensures.looks_up.read_only.rises in
      risen-since (g.S.StoreModel.failed c.args.store.now) (g.S.StoreModel.failed c.block.new.self)
      (g.S.StoreModel.failed c.last_made.new.store) (omega arith)
      c.last_made.ensures.read_only.rises
      (c.last_made.ensures.read_only.storage (says.usable, there, said));
  left = search rules;
}
