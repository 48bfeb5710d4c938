use Rattle.rsl_wire.proofs.NewPacketLaws.{fits_here, written_step, written_rest}
use Rattle.rsl_wire.proofs.new_packet.written.Goals as goal

pub unwrap-requires : goal.unwrap-requires
unwrap-requires c =
    let here = fits_here _ c.args.attributes.now c.loop-attribute.attribute-index _ c.loop-attribute-test.true c.loop-attribute.invariant.rest_fits in
    c.push.ensures.fits.1 (here.0, here.1)

pub loop-attribute-preserved : goal.loop-attribute-preserved
loop-attribute-preserved c =
    let pushed = rw c.unwrap.ensures at c.push.ensures.ok in
    record {
      so_far = written_step c.loop-attribute.draft c.push.new.self c.args.id c.args.attributes.now c.loop-attribute.attribute-index _ c.loop-attribute-test.true c.loop-attribute.invariant.so_far pushed;
      rest_fits = written_rest c.loop-attribute.draft c.push.new.self c.args.attributes.now c.loop-attribute.attribute-index _ c.loop-attribute-test.true pushed c.loop-attribute.invariant.rest_fits;
    }
