use Rattle.std.proofs.Common.{arith, map, refl}
use Rattle.rsl_wire.proofs.NewPacketLaws.{fits_start, fits_back, fits_step, fits_all}
use Rattle.rsl_wire.specs.NewPacket.{seen}
use Rattle.rsl_wire.proofs.new_packet.fits_packet.Goals as goal

pub loop-attribute-init : goal.loop-attribute-init
loop-attribute-init c = record { whole = omega arith; forth = fits_start _; back = fits_back _ }

pub loop-attribute-preserved : goal.loop-attribute-preserved
loop-attribute-preserved c =
    let step = fits_step (map seen c.args.attributes.now) c.args.attributes.now c.loop-attribute.attribute-index _ c.loop-attribute.len c.loop-attribute-test.true c.if-value_len-gt-MAX_VALUE_LEN.false c.loop-attribute.invariant.forth c.loop-attribute.invariant.back in
    record { whole = omega arith; forth = step.0; back = step.1 }

pub returns : goal.returns
returns c = (λ _. c.loop-attribute.invariant.back (fits_all c.loop-attribute.len c.args.attributes.now c.loop-attribute.attribute-index c.loop-attribute-test.false c.loop-attribute.invariant.whole), λ _. refl)
