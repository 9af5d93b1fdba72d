use Rattle.std.proofs.Common.{◌≡◌, sym, ◌∙◌, ap, option_map}
use Rattle.std.specs.Prelude.{◌==◌}
use Rattle.std.specs.HashMap as hash
use Rattle.version.specs.Abstraction.{windows_of}
use Rattle.store.proofs.Numbers.{get-number}
use Rattle.store.proofs.memory.MemoryStoreStore.window_set.Goals as goal

pub returns-clause-value : goal.returns-clause-value
returns-clause-value c usable =
    let found : c.copied.result ≡ hash.get ◌==◌ c.args.self.now.tables.sets c.args.number =
    c.copied.ensures ∙ c.get.ensures.value in
    ap (option_map windows_of) found ∙ sym (get-number windows_of c.args.self.now.tables.sets
    c.args.number)
