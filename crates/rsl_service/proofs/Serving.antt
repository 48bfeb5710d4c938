-- How what was served grows by a turn.
use Rattle.std.proofs.Common.{◌≡◌, ℕ, ◌+◌, List, [], ◌∷◌, ◌++◌, append-nil, refl, sym, ap, subst, ◌∙◌, arith}
use Rattle.std.proofs.lemmas.List.{append_assoc}
use Rattle.rsl_event.specs.declared.meaning.Port.{Port}
use Rattle.rsl_event.specs.declared.event.Source.{Source}
use Rattle.rsl_service.specs.Service.{ServiceSeen}
use Rattle.rsl_record.specs.declared.receipt.Receipt.{Receipt}
use Rattle.rsl_port.proofs.Callers.{more_shown, none_shown}
use Rattle.rsl_service.specs.Counted.{no_counts}
use Rattle.rsl_service.specs.Served.{HasServed, Served, State, NoneYet, ThenDropped, ThenRefused, ThenAnswered}
use Rattle.rsl_port.specs.Shown.{HasShown}
use Rattle.rsl_service.specs.Turned.{HasTurned, TookAnswered, TookNone, counted}
use Rattle.rsl_service.specs.declared.counts.Counts.{Counts}
use Rattle.rsl_port.specs.declared.datagram_port.Datagram.{Datagram}
use Rattle.rsl_service.specs.declared.counts.Turn.{Turn}
use Rattle.rsl_service.specs.declared.counts.Turn.TheVariants.{Down, Nothing, Dropped, Refused, Answered, Unsent}

-- before the first turn nothing is served
pub none_served : (service : ServiceSeen) (port : Port) (state : State)
    → HasServed service port no_counts state state
none_served service port state = record {
  taken = [];
  sent = [];
  shown = [];
  more_taken = search append-nil;
  more_sent = search append-nil;
  more_shown = none_shown state.shown;
  served = NoneYet;
}

-- one more at the end of what came since
one_more : (old mid new since : List (Datagram Source)) (one : Datagram Source) → mid ≡ old ++ since
    → new ≡ mid ++ one ∷ [] → new ≡ old ++ (since ++ one ∷ [])
one_more old mid new since one so_far more =
    more ∙ ap (λ xs. xs ++ one ∷ []) so_far ∙ append_assoc old since (one ∷ [])

-- by equal numbers of each kind
kinds : {d r a x y z : ℕ} (service : ServiceSeen) (port : Port) (old : List Receipt) (taken : List (Datagram Source))
    (new : List Receipt) (sent : List (Datagram Source)) (shown : List ℕ) → d ≡ x → r ≡ y → a ≡ z
    → Served service port old d r a taken new sent shown
    → Served service port old x y z taken new sent shown
kinds {d = d} {r = r} {y = y} {z = z} service port old taken new sent shown i j k served =
    subst (λ n. Served service port old n y z taken new sent shown) i
    (subst (λ n. Served service port old d n z taken new sent shown) j
    (subst (λ n. Served service port old d r n taken new sent shown) k served))

-- as many of each kind
abbrev SameKinds : (counts then : Counts) → Type 0
SameKinds counts then =
    (then.dropped ≡ counts.dropped) × (then.refused ≡ counts.refused)
    × (then.answered + then.unsent ≡ counts.answered + counts.unsent)

-- a turn without a datagram
quiet : (service : ServiceSeen) (port : Port) (turn : Turn) (counts : Counts) (old mid new : State)
    → SameKinds counts (counted turn counts) → HasServed service port counts old mid
    → TookNone mid new → HasServed service port (counted turn counts) old new
quiet service port turn counts old mid new (d, r, a) so_far same = record {
  taken = so_far.taken;
  sent = so_far.sent;
  shown = so_far.shown;
  more_taken = same.0 ∙ so_far.more_taken;
  more_sent = same.2 ∙ so_far.more_sent;
  more_shown = subst (λ shown. HasShown so_far.shown old.shown shown) (sym same.3) so_far.more_shown;
  served =
      kinds service port old.receipts so_far.taken new.receipts so_far.sent so_far.shown (sym d) (sym r) (sym a)
      (subst (λ receipts. Served service port old.receipts counts.dropped counts.refused (counts.answered + counts.unsent) so_far.taken receipts so_far.sent so_far.shown) (sym same.1) so_far.served);
}

-- a turn with an answer
answered : (service : ServiceSeen) (port : Port) (turn : Turn) (counts : Counts)
    (old mid new : State) → (counted turn counts).dropped ≡ counts.dropped
    → (counted turn counts).refused ≡ counts.refused
    → (counted turn counts).answered + (counted turn counts).unsent ≡ counts.answered + counts.unsent + 1
    → HasServed service port counts old mid → TookAnswered service port mid new
    → HasServed service port (counted turn counts) old new
answered service port turn counts old mid new d r a so_far took = record {
  taken = so_far.taken ++ took.one ∷ [];
  sent = so_far.sent ++ took.reply ∷ [];
  shown = so_far.shown ++ took.moment ∷ [];
  more_taken = one_more old.taken mid.taken new.taken so_far.taken took.one so_far.more_taken took.took;
  more_sent = one_more old.sent mid.sent new.sent so_far.sent took.reply so_far.more_sent took.sends;
  more_shown = more_shown so_far.shown (took.moment ∷ []) old.shown mid.shown new.shown so_far.more_shown took.read;
  served =
      kinds service port old.receipts (so_far.taken ++ took.one ∷ []) new.receipts (so_far.sent ++ took.reply ∷ []) (so_far.shown ++ took.moment ∷ []) (sym d) (sym r) (sym a)
      (ThenAnswered so_far.served took.one took.reply took.moment took.answered);
}

-- a turn more
pub served_more : (service : ServiceSeen) (port : Port) (turn : Turn) (counts : Counts)
    (old mid new : State) → HasServed service port counts old mid
    → HasTurned service port turn mid new → HasServed service port (counted turn counts) old new
served_more service port Down counts old mid new so_far turned =
    quiet service port Down counts old mid new (refl, refl, refl) so_far turned
served_more service port Nothing counts old mid new so_far turned =
    quiet service port Nothing counts old mid new (refl, refl, refl) so_far turned
served_more service port Dropped counts old mid new so_far turned = record {
  taken = so_far.taken ++ turned.one ∷ [];
  sent = so_far.sent;
  shown = so_far.shown;
  more_taken = one_more old.taken mid.taken new.taken so_far.taken turned.one so_far.more_taken turned.took;
  more_sent = turned.unsent ∙ so_far.more_sent;
  more_shown = subst (λ shown. HasShown so_far.shown old.shown shown) (sym turned.unread) so_far.more_shown;
  served = subst (λ receipts. Served service port old.receipts (counts.dropped + 1) counts.refused (counts.answered + counts.unsent) (so_far.taken ++ turned.one ∷ []) receipts so_far.sent so_far.shown) (sym turned.unnoted) (ThenDropped so_far.served turned.one turned.dropped);
}
served_more service port Refused counts old mid new so_far turned = record {
  taken = so_far.taken ++ turned.one ∷ [];
  sent = so_far.sent;
  shown = so_far.shown ++ turned.shown;
  more_taken = one_more old.taken mid.taken new.taken so_far.taken turned.one so_far.more_taken turned.took;
  more_sent = turned.unsent ∙ so_far.more_sent;
  more_shown = more_shown so_far.shown turned.shown old.shown mid.shown new.shown so_far.more_shown turned.read;
  served = ThenRefused so_far.served turned.one turned.shown turned.refused;
}
served_more service port Answered counts old mid new so_far turned =
    answered service port Answered counts old mid new refl refl (omega arith) so_far turned
served_more service port Unsent counts old mid new so_far turned =
    answered service port Unsent counts old mid new refl refl (omega arith) so_far turned

-- by the counts after it
pub turn_served : (service : ServiceSeen) (port : Port) (turn : Turn) (counts after : Counts)
    (old mid new : State) → after ≡ counted turn counts → HasServed service port counts old mid
    → HasTurned service port turn mid new → HasServed service port after old new
turn_served service port turn counts after old mid new is so_far turned =
    subst (λ cs. HasServed service port cs old new) (sym is)
    (served_more service port turn counts old mid new so_far turned)
