-- How a batch grows by datagrams.
use Rattle.std.specs.declared.net.socket_addr.SocketAddr.{SocketAddr}
use Rattle.std.proofs.Common.{◌≡◌, ℕ, ◌<◌, List, [], ◌∷◌, ◌++◌, length, take, length-append, append-nil, append_assoc, refl, suc, sym, ap, subst, ◌∙◌, arith}
use Rattle.std.specs.Prelude.{Option, Some, None, Result, Ok, Err}
use Rattle.std.specs.List.{AllByRecursion}
use Rattle.rsl_accounts.specs.Configuration.{Configuration, client_number}
use Rattle.rsl_event.specs.Copied.{TakesMemory}
use Rattle.rsl_event.specs.Detail.{detail_of}
use Rattle.rsl_event.specs.Meaning.{Fails, meaning}
use Rattle.rsl_event.specs.MeaningKind.{kind_of}
use Rattle.rsl_event.specs.Prepared.{CanReply, HasAccount, HasAsker, HasRoomFor, HasRoomForReply, IsPrepared}
use Rattle.rsl_event.specs.declared.detail.Detail.{Detail}
use Rattle.rsl_event.specs.declared.meaning_kind.MeaningKind.{MeaningKind}
use Rattle.rsl_event.specs.declared.event.Act.TheVariants as acts
use Rattle.rsl_event.specs.declared.event.Decision.{Decision}
use Rattle.rsl_event.specs.declared.meaning.Dropped.{Dropped as Drop}
use Rattle.rsl_event.specs.declared.meaning.Dropped.TheVariants as drops
use Rattle.rsl_event.specs.declared.meaning.Meaning.{Meaning}
use Rattle.rsl_event.specs.declared.meaning.Meaning.TheVariants as Mean
use Rattle.rsl_event.specs.declared.meaning.Port.{Port}
use Rattle.rsl_event.specs.declared.preparation.Detailed.{Detailed}
use Rattle.rsl_shard.specs.declared.moved.Move.{Move}
use Rattle.rsl_port.specs.Told.{Received, datagram_of, taken_by}
use Rattle.rld_turn.specs.Ended.{CanEnd, HasPlace}
use Rattle.rsl_wire.specs.Packet.{packet_of}
use Rattle.rsl_wire.specs.Seen.{fields_of}
use Rattle.rld_turn.specs.Entered.{AreEntered, HasAdded, HasGathered, IsEntered, IsLast, IsMadeOf, IsRequest}
use Rattle.rld_turn.specs.Moves.{move_of}
use Rattle.rld_turn.specs.Recorded.{HasCount}
use Rattle.rld_turn.specs.Present.{PeerDatagram, ServiceSeen, origin_of}
use Rattle.rld_turn.specs.declared.origin.Origin.{Origin}
use Rattle.rld_turn.specs.declared.request.Entry.{Entry}
use Rattle.rld_turn.specs.declared.request.Entry.TheVariants.{Dropped, Refused, Bare, Moved}
use Rattle.rld_turn.specs.declared.request.Request.{Request}

-- one datagram
pub one_entered : (service : ServiceSeen) (port : Port) (moment : ℕ) (one : PeerDatagram) (entry : Entry)
    (old new : List Move) → IsEntered service port moment one entry old new
    → AreEntered service port moment (one ∷ []) (entry ∷ []) old new
one_entered service port moment one entry old new entered = (one, [], new, refl, entered, (refl, refl))

-- datagrams after datagrams
pub then_entered : (service : ServiceSeen) (port : Port) (moment : ℕ) (taken more : List PeerDatagram)
    (entries others : List Entry) (old mid new : List Move)
    → AreEntered service port moment taken entries old mid
    → AreEntered service port moment more others mid new
    → AreEntered service port moment (taken ++ more) (entries ++ others) old new
then_entered service port moment taken more [] others old mid new (none, same) after =
    subst (λ (t : List PeerDatagram). AreEntered service port moment t others old new)
    (sym (ap (λ (t : List PeerDatagram). t ++ more) none))
    (subst (λ (b : List Move). AreEntered service port moment more others b new) same after)
then_entered service port moment taken more (entry ∷ entries) others old mid new (one, rest, next, is, entered, before) after =
    (one, rest ++ more, next, ap (λ (t : List PeerDatagram). t ++ more) is, entered, then_entered service port moment rest more entries others next mid new before after)

-- as many entries as datagrams
pub as_many : (service : ServiceSeen) (port : Port) (moment : ℕ) (taken : List PeerDatagram)
    (entries : List Entry) (old new : List Move) → AreEntered service port moment taken entries old new
    → length taken ≡ length entries
as_many service port moment taken [] old new (none, same) = ap length none
as_many service port moment taken (entry ∷ entries) old new (one, rest, mid, is, entered, others) =
    ap length is ∙ ap (λ (n : ℕ). suc n) (as_many service port moment rest entries mid new others)

-- nothing was gathered yet
pub none_gathered : (service : ServiceSeen) (port : Port) (moment : ℕ) (Tells : Type 0)
    (taken : List PeerDatagram) (queue : List Entry) (batch : List Move) → queue ≡ [] → batch ≡ []
    → HasGathered service port moment Tells taken taken queue batch
none_gathered service port moment Tells taken queue batch no_entry no_move =
    subst (λ (q : List Entry). HasGathered service port moment Tells taken taken q batch) (sym no_entry) (record {
      taken = [];
      entered = (refl, no_move);
      told = λ t. sym (append-nil taken);
    })

-- one datagram more was
pub gathered_more : (service : ServiceSeen) (port : Port) (moment : ℕ) (Told Tells : Type 0)
    (len : ℕ) (peer : SocketAddr) (received : Received SocketAddr) (buffer : List ℕ) (entry : Entry)
    (taken_old taken_mid taken_new : List PeerDatagram) (queue_mid queue_new : List Entry)
    (mid new : List Move) → received ≡ Ok (Some (len, peer)) → (Tells → Told)
    → HasGathered service port moment Told taken_old taken_mid queue_mid mid
    → IsEntered service port moment (datagram_of peer (take len buffer)) entry mid new
    → queue_new ≡ queue_mid ++ entry ∷ []
    → (Tells → taken_new ≡ taken_mid ++ taken_by received buffer)
    → HasGathered service port moment Tells taken_old taken_new queue_new new
gathered_more service port moment Told Tells len peer received buffer entry taken_old taken_mid taken_new queue_mid queue_new mid new is tells so_far entered queued taken =
    let one : PeerDatagram = datagram_of peer (take len buffer) in
    subst (λ (q : List Entry). HasGathered service port moment Tells taken_old taken_new q new) (sym queued) (record {
      taken = so_far.taken ++ one ∷ [];
      entered = then_entered service port moment so_far.taken (one ∷ []) queue_mid (entry ∷ []) [] mid new so_far.entered (one_entered service port moment one entry mid new entered);
      told = λ t. taken t ∙ ap (λ (r : Received SocketAddr). taken_mid ++ taken_by r buffer) is
          ∙ ap (λ (q : List PeerDatagram). q ++ one ∷ []) (so_far.told (tells t)) ∙ append_assoc taken_old so_far.taken (one ∷ []);
    })

-- ---- what is kept of a batch

-- the batch goes on with what it had
pub goes_on : (service : ServiceSeen) (port : Port) (moment : ℕ) (taken : List PeerDatagram)
    (entries : List Entry) (old new : List Move) → AreEntered service port moment taken entries old new
    → (more : List Move) × (new ≡ old ++ more)
goes_on service port moment taken [] old new (none, same) = ([], same ∙ sym (append-nil old))
goes_on service port moment taken (entry ∷ entries) old new (one, rest, mid, is, entered, others) =
    let after = goes_on service port moment rest entries mid new others in
    by entry entered after.0 after.1
  where
    by : (entry : Entry) → IsEntered service port moment one entry old mid → (more : List Move)
        → new ≡ mid ++ more → (more : List Move) × (new ≡ old ++ more)
    by (Dropped source cause) entered more so = (more, so ∙ ap (λ (b : List Move). b ++ more) entered.2)
    by (Refused source) entered more so = (more, so ∙ ap (λ (b : List Move). b ++ more) entered.2)
    by (Bare request) entered more so = (more, so ∙ ap (λ (b : List Move). b ++ more) entered.1)
    by (Moved request place) (moved, waits, last) more so =
        (moved ∷ more, so ∙ ap (λ (b : List Move). b ++ more) last.last ∙ append_assoc old (moved ∷ []) more)

-- where each move of the whole batch has a decision, each entry can be answered
pub can_end : (service : ServiceSeen) (port : Port) (moment : ℕ) (decisions : Option (List Decision))
    (taken : List PeerDatagram) (entries : List Entry) (old new : List Move)
    → AreEntered service port moment taken entries old new → HasCount decisions new
    → AllByRecursion (CanEnd service.config decisions) entries
can_end service port moment decisions taken [] old new entered count = tt
can_end service port moment decisions taken (entry ∷ entries) old new (one, rest, mid, is, entered, others) count =
    (by entry entered, can_end service port moment decisions rest entries mid new others count)
  where
    within : (decisions : Option (List Decision)) (place : ℕ) (moved : Move)
        → IsLast place moved old mid → HasCount decisions new → HasPlace decisions place
    within None place moved last count = tt
    within (Some found) place moved last count =
        let after = goes_on service port moment rest entries mid new others in
        let long : length new ≡ length (mid ++ after.0) = ap length after.1 in
        let short : length mid ≡ length (old ++ moved ∷ []) = ap length last.last in
        omega (arith, long, short, length-append mid after.0, length-append old (moved ∷ []), last.at, count)

    by : (entry : Entry) → IsEntered service port moment one entry old mid → CanEnd service.config decisions entry
    by (Dropped source cause) entered = tt
    by (Refused source) entered = tt
    by (Bare waiting) entered = entered.0.answer
    by (Moved waiting place) (moved, waits, last) = (waits.answer, within decisions place moved last count)

-- the account that asks is there
asker : (config : Configuration) (m : Meaning) → HasAccount config m → HasAsker config (kind_of m)
asker config Mean.Bare account = tt
asker config Mean.Reject account = tt
asker config (Mean.Own number (acts.Ask key nas station)) account = account
asker config (Mean.Own number (acts.Alive nas session bundle class station)) account = tt
asker config (Mean.Own number (acts.Stop nas session)) account = tt
asker config (Mean.Own number (acts.Sweep nas delay)) account = tt
asker config (Mean.Own number acts.Tick) account = tt
asker config (Mean.Restart nas delay) account = tt
asker config (Mean.Stray note) account = tt

-- the reply has room
room : (config : Configuration) (attributes : List ℕ) (m : Meaning) → HasRoomForReply config attributes m → HasRoomFor config attributes (kind_of m)
room config attributes Mean.Bare has = tt
room config attributes Mean.Reject has = has
room config attributes (Mean.Own number (acts.Ask key nas station)) has = has
room config attributes (Mean.Own number (acts.Alive nas session bundle class station)) has = has
room config attributes (Mean.Own number (acts.Stop nas session)) has = has
room config attributes (Mean.Own number (acts.Sweep nas delay)) has = has
room config attributes (Mean.Own number acts.Tick) has = has
room config attributes (Mean.Restart nas delay) has = has
room config attributes (Mean.Stray note) has = has

-- what was made of a datagram that was understood is a request
is_request : (service : ServiceSeen) (port : Port) (moment : ℕ) (origin : Origin) (peer : SocketAddr) (datagram : List ℕ)
    (detailed : Detailed) (request : Request) (moved : Option Move) → origin ≡ origin_of service peer
    → meaning service.config service.boot port origin.source datagram ≡ Ok detailed.prepared.meaning
    → packet_of datagram ≡ Ok (fields_of detailed.prepared.packet)
    → client_number service.config origin.source.address ≡ Some detailed.prepared.client
    → detail_of service.config port origin.source datagram ≡ Some detailed.detail
    → IsPrepared service.config detailed.prepared
    → IsMadeOf origin datagram detailed request
    → move_of service.config moment detailed.prepared.meaning ≡ moved
    → IsRequest service port moment (datagram_of peer datagram) moved request
is_request service port moment origin peer datagram detailed request moved from meant packet known detail is held move =
    let same : request.origin ≡ origin_of service peer = held.origin_is ∙ from in
    let source = ap (λ (o : Origin). o.source) from in
    record {
      meant = detailed.prepared.meaning;
      is = ap (λ (p : SocketAddr). datagram_of p datagram) (sym (ap (λ (o : Origin). o.peer) same))
          ∙ ap (λ (o : List ℕ). datagram_of request.origin.peer o) (sym held.octets_are);
      origin = same;
      understood = ap (λ s. meaning service.config service.boot port s datagram) (sym source) ∙ meant;
      kind = held.kind;
      detail = ap (λ s. detail_of service.config port s datagram) (sym source) ∙ detail
          ∙ ap (λ (d : Detail). Some d) (sym held.detail);
      subject = held.subject;
      move = move;
      answer = record {
        fields = fields_of detailed.prepared.packet;
        known = ap (λ (o : Origin). client_number service.config o.source.address) held.origin_is ∙ known ∙ ap (λ (c : ℕ). Some c) (sym held.client);
        packet = ap packet_of held.octets_are ∙ packet;
        reply = can_reply service.config request.client detailed.prepared.client detailed.prepared.packet.attrs.now request.kind detailed.prepared.meaning
            held.client held.kind is.client is.account is.room;
        draft = held.draft;
      };
    }
  where
    can_reply : (config : Configuration) (client one : ℕ) (attributes : List ℕ) (kind : MeaningKind) (meant : Meaning)
        → client ≡ one → kind ≡ kind_of meant → one < length config.clients → HasAccount config meant → HasRoomForReply config attributes meant
        → CanReply config client attributes kind
    can_reply config client one attributes kind meant i j known account has =
        subst (λ (c : ℕ). CanReply config c attributes kind) (sym i)
        (subst (λ (k : MeaningKind). CanReply config one attributes k) (sym j) (record {
          known = known;
          asker = asker config meant account;
          room = room config attributes meant has;
        }))

-- what was added of a datagram that was understood is entered
pub added : (service : ServiceSeen) (port : Port) (moment : ℕ) (origin : Origin) (peer : SocketAddr) (datagram : List ℕ)
    (detailed : Detailed) (request : Request) (entry : Entry) (old new : List Move) → origin ≡ origin_of service peer
    → meaning service.config service.boot port origin.source datagram ≡ Ok detailed.prepared.meaning
    → packet_of datagram ≡ Ok (fields_of detailed.prepared.packet)
    → client_number service.config origin.source.address ≡ Some detailed.prepared.client
    → detail_of service.config port origin.source datagram ≡ Some detailed.detail
    → IsPrepared service.config detailed.prepared
    → IsMadeOf origin datagram detailed request
    → HasAdded service.config moment detailed.prepared.meaning request entry old new
    → IsEntered service port moment (datagram_of peer datagram) entry old new
added service port moment origin peer datagram detailed request (Dropped from cause) old new so meant packet known detail is held added_so = absurd added_so
added service port moment origin peer datagram detailed request (Refused from) old new so meant packet known detail is held (same, left) = (
  same ∙ held.origin_is ∙ so,
  record {
    meant = detailed.prepared.meaning;
    understood = ap (λ (o : Origin). meaning service.config service.boot port o.source datagram) (sym so) ∙ meant;
  },
  left,
)
added service port moment origin peer datagram detailed request (Bare other) old new so meant packet known detail is held (same, none, left) = (
  is_request service port moment origin peer datagram detailed other None so meant packet known detail is
      (subst (λ (r : Request). IsMadeOf origin datagram detailed r) (sym same) held) none,
  left,
)
added service port moment origin peer datagram detailed request (Moved other place) old new so meant packet known detail is held (moved, same, some, last) = (
  moved,
  is_request service port moment origin peer datagram detailed other (Some moved) so meant packet known detail is
      (subst (λ (r : Request). IsMadeOf origin datagram detailed r) (sym same) held) some,
  last,
)

-- a datagram that was understood and refused memory is entered
pub refused : (service : ServiceSeen) (port : Port) (moment : ℕ) (origin : Origin) (peer : SocketAddr) (datagram : List ℕ)
    (meant : Meaning) (old new : List Move) → origin ≡ origin_of service peer
    → meaning service.config service.boot port origin.source datagram ≡ Ok meant → new ≡ old
    → IsEntered service port moment (datagram_of peer datagram) (Refused origin) old new
refused service port moment origin peer datagram meant old new so is same = (
  so,
  record {
    meant = meant;
    understood = ap (λ (o : Origin). meaning service.config service.boot port o.source datagram) (sym so) ∙ is;
  },
  same,
)

-- a meaning that takes memory is one
takes : (defined : Result Meaning Drop) → TakesMemory defined → (meant : Meaning) × (defined ≡ Ok meant)
takes (Ok meant) can = (meant, refl)
takes (Err cause) can = absurd can

-- so is one that was refused memory as it was prepared
pub unprepared : (service : ServiceSeen) (port : Port) (moment : ℕ) (origin : Origin) (peer : SocketAddr) (datagram : List ℕ)
    (cause : Drop) (old new : List Move) → origin ≡ origin_of service peer → cause ≡ drops.NoMemory
    → Fails cause (meaning service.config service.boot port origin.source datagram) → new ≡ old
    → IsEntered service port moment (datagram_of peer datagram) (Refused origin) old new
unprepared service port moment origin peer datagram cause old new so is fails same =
    let defined = meaning service.config service.boot port origin.source datagram in
    let found = takes defined (subst (λ (d : Drop). Fails d defined) is fails) in
    refused service port moment origin peer datagram found.0 old new so found.1 same
