use Rattle.std.proofs.Common.{◌≡◌, All, length, map, take}
use Rattle.rld_counts.specs.declared.reading.Reading.{Reading}
use Rattle.rld_counts.proofs.board.Board.read.Given as goal

abbrev pub invariant-loop-place : goal.invariant-loop-place
invariant-loop-place g l = record {
  numbers :
      map (λ reading. reading.number) l.readings.items ≡ map (λ place. place.number) (take l.place-index l.self.places.items);
  gates :
      map (λ reading. reading.gate) l.readings.items ≡ map (λ place. place.gate) (take l.place-index l.self.places.items);
  clients : All (λ (reading : Reading). length reading.cell.clients ≡ l.clients) l.readings.items;
}
