use Rattle.std.proofs.Common.{refl}
use Rattle.rld_turn.proofs.Entering.{added, refused, unprepared}
use Rattle.rld_turn.specs.Present.{service_of}
use Rattle.rld_turn.proofs.present.Present.enter.Goals as goal

pub returns-in-Ok-of : goal.returns-in-Ok-of
returns-in-Ok-of c =
    added (service_of c.args.self.now) c.args.arrival.port c.args.arrival.moment c.origin-origin.result c.args.arrival.peer c.args.arrival.datagram.now
    c.in-Ok.detailed c.in-Ok-of.request c.add.result c.args.batch.now.items c.add.new.batch.items c.origin-origin.ensures
    c.in-Ok.ensures.meaning c.in-Ok.ensures.packet c.in-Ok.ensures.client c.in-Ok.ensures.detail c.in-Ok.ensures.prepared c.in-Ok-of.ensures c.add.ensures

pub returns-in-Err-NoMemory : goal.returns-in-Err-NoMemory
returns-in-Err-NoMemory c =
    unprepared (service_of c.args.self.now) c.args.arrival.port c.args.arrival.moment c.origin-origin.result c.args.arrival.peer c.args.arrival.datagram.now
    c.in-Err-NoMemory.field-0 _ _ c.origin-origin.ensures c.in-Err-NoMemory.field-0-is c.in-Err-NoMemory.ensures.meaning refl

pub returns-in-Err-of : goal.returns-in-Err-of
returns-in-Err-of c =
    refused (service_of c.args.self.now) c.args.arrival.port c.args.arrival.moment c.origin-origin.result c.args.arrival.peer c.args.arrival.datagram.now
    c.in-Ok.detailed.prepared.meaning _ _ c.origin-origin.ensures c.in-Ok.ensures.meaning refl
