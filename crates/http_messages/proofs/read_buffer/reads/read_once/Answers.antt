use Rattle.std.proofs.Common.{◌≡◌, ℕ, ◌-◌, List, length, take, sym, arith, rules}
use Rattle.http_messages.proofs.BufferLemmas.{taken_more}
use Rattle.http_messages.proofs.read_buffer.reads.read_once.Goals as goal

pub returns-clause-ok : goal.returns-clause-ok
returns-clause-ok g c =
    let buf : List ℕ = c.args.buf.now in
    let part : List ℕ = c.read.new.buf in
    let n : ℕ = c.in_ok-n.n in
    let long : length part ≡ c.args.end - c.args.start = search (rules, c.read.auto.buf) in
    record {
      fits = omega (arith, long, c.in_ok-n.ensures.bound.0);
      within = c.requires.within;
      more = take n part;
      count = sym c.in_ok-n.ensures.bound.1;
      kept = taken_more buf part _ c.args.start n (omega arith) c.in_ok-n.ensures.bound.0;
      read = c.in_ok-n.ensures.bytes.0;
      end = λ z. c.in_ok-n.ensures.bytes.1 z (omega arith);
    }
