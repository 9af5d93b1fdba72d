use Rattle.settle.specs.Abstraction.{block_of}
use Rattle.store.specs.Tables.{content_of}
use Rattle.store.proofs.BlockListed.{in-block-are}
use Rattle.store.proofs.SubjectsListed.{if_ok}
use Rattle.store.proofs.blocks.in_block.Goals as goal

pub returns : goal.returns
returns c =
    if_ok
    (λ found is.
    in-block-are (content_of c.args.tables.now) (block_of c.args.block) c.in_ok-numbers.numbers is.1
    c.in_ok-numbers.ensures found.items is.0)
    c.ascending.result c.ascending.ensures
