use Rattle.std.proofs.Common.{◌*◌, ap, arith, length}
use Rattle.circular_buffer.specs.Buffer.{Buffer}
use Rattle.rsl_session.specs.Book.{new_book}
use Rattle.rsl_book.specs.declared.kept.Kept.{Kept}
use Rattle.rsl_book.specs.declared.kept.DecidedAsk.{DecidedAsk}
use Rattle.rsl_book.specs.declared.kept.EndedSession.{EndedSession}
use Rattle.rsl_book.proofs.Insides.{same_value, within_limit, counted_none, none_seen, no_asks_seen, no_stops_seen, new_table}
use Rattle.rsl_book.proofs.book.Book.new.Goals as goal

pub invariant_of-result : goal.invariant_of-result
invariant_of-result c =
    let most = c.most_links-most.ensures.most in
    let links = c.in_ok-new-2.ensures in
    record {
      fit = c.requires;
      ports = links.ports;
      counted = counted_none c.in_ok-new.field-0 c.in_ok-new-2.field-0 links.empty links.places (let same = links.ports in omega (arith, c.requires.a_port));
      limit = let none = links.places in omega arith;
      room = let room = links.room in omega arith;
      table = new_table c.most_links-most.result (c.args.rules.places * c.args.rules.ports) (length c.in_ok-new.field-0) most c.in_ok-new.ensures;
      asks = ap (λ (ring : Buffer (Kept DecidedAsk)). ring.capacity) c.in_ok-new-3.ensures;
      stops = ap (λ (ring : Buffer (Kept EndedSession)). ring.capacity) c.in_ok-new-4.ensures;
    }

pub returns-clause-made : goal.returns-clause-made
unfolding new_book
returns-clause-made c =
    same_value c.args.rules 0 0 0 (none_seen c.in_ok-new.field-0 c.in_ok-new-2.field-0.list.items c.in_ok-new-2.ensures.empty)
    (no_asks_seen c.in_ok-new.field-0 c.in_ok-new-3.field-0.items (ap (λ (ring : Buffer (Kept DecidedAsk)). ring.items) c.in_ok-new-3.ensures))
    (no_stops_seen c.in_ok-new.field-0 c.in_ok-new-4.field-0.items (ap (λ (ring : Buffer (Kept EndedSession)). ring.items) c.in_ok-new-4.ensures))

pub returns-clause-limit : goal.returns-clause-limit
returns-clause-limit c = within_limit _ (invariant_of-result c)
