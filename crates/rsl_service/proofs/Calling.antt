-- How the numbers of a port and the counts of its receiver rise with a turn.
use Rattle.std.proofs.Common.{◌≡◌, ℕ, ◌+◌, ◌<◌, ◌≤◌, Bool, cond, refl, sym, ◌∙◌, subst, arith}
use Rattle.rsl_service.specs.Counted.{AddsUp, AreCounted, IsCalled, no_counts}
use Rattle.rsl_port.specs.Told.{CanReceive, CanSend}
use Rattle.rsl_service.specs.Turned.{HasCalled, counted, is_down}
use Rattle.rsl_service.specs.declared.counts.Counts.{Counts}
use Rattle.rsl_port.specs.declared.datagram_port.Numbers.{Numbers}
use Rattle.rsl_service.specs.declared.counts.Turn.{Turn}
use Rattle.rsl_service.specs.declared.counts.Turn.TheVariants.{Down, Nothing, Dropped, Refused, Answered, Unsent}

-- the sum holds after a turn
pub adds_up : (turn : Turn) (counts : Counts) → AddsUp counts → AddsUp (counted turn counts)
adds_up Down counts sum = sum
adds_up Nothing counts sum = sum
adds_up Dropped counts sum = omega (arith, sum)
adds_up Refused counts sum = omega (arith, sum)
adds_up Answered counts sum = omega (arith, sum)
adds_up Unsent counts sum = omega (arith, sum)

-- each turn is counted
pub one_turn : (turn : Turn) (counts : Counts) → (counted turn counts).turns ≡ counts.turns + 1
one_turn Down counts = refl
one_turn Nothing counts = refl
one_turn Dropped counts = refl
one_turn Refused counts = refl
one_turn Answered counts = refl
one_turn Unsent counts = refl

-- and receives one datagram at most
pub one_received : (turn : Turn) (counts : Counts) → counts.received ≤ counts.turns
    → (counted turn counts).received ≤ (counted turn counts).turns
one_received Down counts few = omega (arith, few)
one_received Nothing counts few = omega (arith, few)
one_received Dropped counts few = omega (arith, few)
one_received Refused counts few = omega (arith, few)
one_received Answered counts few = omega (arith, few)
one_received Unsent counts few = omega (arith, few)

-- calls after calls
called : {a b c d p q r s x y z w : ℕ} {old mid new : Numbers} → x ≡ a + p → y ≡ b + q
    → z ≡ c + r → w ≡ d + s → IsCalled a b c d old mid → IsCalled p q r s mid new
    → IsCalled x y z w old new
called i j k l first then = record {
  receives_now = omega (arith, i, first.receives_now, then.receives_now);
  receives_failed = omega (arith, j, first.receives_failed, then.receives_failed);
  sends_now = omega (arith, k, first.sends_now, then.sends_now);
  sends_failed = omega (arith, l, first.sends_failed, then.sends_failed);
  none_astray = then.none_astray ∙ first.none_astray;
}

-- a turn's calls are counted
calls_more : (turn : Turn) (counts : Counts) (old mid new : Numbers) → AreCounted 0 counts old mid
    → HasCalled turn mid new → AreCounted (cond (is_down turn) 1 0) (counted turn counts) old new
calls_more Down counts old mid new so_far more =
    called refl refl (omega arith) (omega arith) so_far more
calls_more Nothing counts old mid new so_far more =
    called refl refl (omega arith) (omega arith) so_far more
calls_more Dropped counts old mid new so_far more =
    called refl refl (omega arith) (omega arith) so_far more
calls_more Refused counts old mid new so_far more =
    called refl refl (omega arith) (omega arith) so_far more
calls_more Answered counts old mid new so_far more =
    called refl refl (omega arith) (omega arith) so_far more
calls_more Unsent counts old mid new so_far more =
    called refl refl (omega arith) (omega arith) so_far more

-- and its failure, if `receive` failed in it
pub turn_called : (turn : Turn) (counts after : Counts) (b : Bool) (old mid new : Numbers)
    → after ≡ counted turn counts → is_down turn ≡ b → AreCounted 0 counts old mid
    → HasCalled turn mid new → AreCounted (cond b 1 0) after old new
turn_called turn counts after b old mid new is down so_far more =
    subst (λ cs. AreCounted (cond b 1 0) cs old new) (sym is)
    (subst (λ d. AreCounted (cond d 1 0) (counted turn counts) old new) down
    (calls_more turn counts old mid new so_far more))

-- before the first turn there is no call
pub none_called : (numbers : Numbers) → AreCounted 0 no_counts numbers numbers
none_called numbers = record {
  receives_now = omega arith;
  receives_failed = omega arith;
  sends_now = omega arith;
  sends_failed = omega arith;
  none_astray = refl;
}

-- where there is room for more turns than were taken, there is room for one
pub can_receive : (turns : ℕ) (counts : Counts) (old now : Numbers) → counts.turns < turns
    → CanReceive turns old → AreCounted 0 counts old now → CanReceive 1 now
can_receive turns counts old now more can so_far = record {
  receives = omega (arith, more, can.receives, so_far.receives_now);
  failed = omega (arith, more, can.failed, so_far.receives_failed);
}

pub can_send : (turns : ℕ) (counts : Counts) (old now : Numbers) → counts.turns < turns
    → counts.received ≤ counts.turns → AddsUp counts
    → CanSend turns old → AreCounted 0 counts old now → CanSend 1 now
can_send turns counts old now more few sum can so_far = record {
  sends = omega (arith, more, few, sum, can.sends, so_far.sends_now);
  failed = omega (arith, more, few, sum, can.failed, so_far.sends_failed);
  astray = omega (arith, more, can.astray, so_far.none_astray);
}

pub ruleset calling = (can_receive, can_send)
