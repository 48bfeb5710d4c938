use Rattle.std.proofs.Common.{◌≡◌, ◌∙◌, ap, length, map}
use Rattle.std.proofs.lemmas.List.{length-map}
use Rattle.rsl_book.specs.Seen.{sweep_kept}
use Rattle.rsl_book.proofs.Ringed.{prints_swept}
use Rattle.rsl_book.proofs.ring.Ring.sweep.Goals as goal

pub invariant_of-self : goal.invariant_of-self
invariant_of-self g c =
    let swept : c.sweep_each.new.all ≡ map (sweep_kept c.args.servers.now c.args.nas.now c.args.delay c.args.now) c.self.inside.kept.items =
    c.sweep_each.ensures ∙ ap (map (sweep_kept c.args.servers.now c.args.nas.now c.args.delay c.args.now)) c.make_contiguous.ensures.value in
    let long : length c.sweep_each.new.all ≡ length c.self.inside.kept.items =
    ap length swept ∙ length-map c.self.inside.kept.items (sweep_kept c.args.servers.now c.args.nas.now c.args.delay c.args.now) in
    prints_swept g.S.Subject.print c.args.servers.now c.args.nas.now c.args.delay c.args.now c.self.inside.fingerprints c.self.inside.kept _
    c.self.invariant (c.make_contiguous.ensures.same_len c.sweep_each.new.all long ∙ swept)
