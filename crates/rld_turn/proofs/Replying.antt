-- How what was answered of a batch grows by a datagram.
use Rattle.std.proofs.Common.{◌≡◌, ℕ, Bool, true, false, List, [], ◌∷◌, ◌++◌, length, append-nil, append_assoc, refl, sym, ap, subst, ◌∙◌}
use Rattle.std.specs.Prelude.{Option, Some, None}
use Rattle.rsl_accounts.specs.Configuration.{client_number}
use Rattle.rsl_event.specs.Answer.{answer_to, said_to}
use Rattle.rsl_event.specs.Detail.{detail_of}
use Rattle.rsl_event.specs.MeaningKind.{kind_of}
use Rattle.rsl_event.specs.declared.event.Decision.{Decision}
use Rattle.rsl_event.specs.declared.event.Decision.TheVariants.{Done}
use Rattle.rsl_event.specs.declared.meaning.Port.{Port}
use Rattle.rsl_event.specs.declared.words.Said.{Said}
use Rattle.rsl_shard.specs.declared.moved.Move.{Move}
use Rattle.rld_books.specs.Server.{ServerSeen, decision_in, decisions_of, replay}
use Rattle.rld_turn.proofs.Deciding.{decided_at}
use Rattle.rld_turn.proofs.Entering.{goes_on}
use Rattle.rld_turn.proofs.Telling.{more_told, none_told, same_told}
use Rattle.rld_turn.specs.Answered.{Batch, HasAnswered}
use Rattle.rld_turn.specs.Ended.{IsEndOf, answer_if, decision_at, reply_of, sent_by, told_by, told_by_request}
use Rattle.rld_turn.specs.Entered.{AreEntered, IsEntered, IsRequest}
use Rattle.rld_turn.specs.Moves.{decided}
use Rattle.rld_turn.specs.Recorded.{HasDecided, is_recorded}
use Rattle.rsl_wire.specs.Packet.{packet_of}
use Rattle.rld_turn.specs.Subject.{subject_in}
use Rattle.rld_turn.specs.Told.{HasTold, IsSentAs, Told, told_of}
use Rattle.rld_turn.specs.Present.{PeerDatagram, ServiceSeen, meaning_of, origin_of, source_of}
use Rattle.rld_turn.specs.Turned.{IsAnsweredBy, Turned, bare_told, request_told, NoneYet, ThenDropped, ThenRefused, ThenUnrecorded, ThenBare, ThenAnswered}
use Rattle.rld_turn.specs.declared.end.End.{End}
use Rattle.rld_turn.specs.declared.end.End.TheVariants as ends
use Rattle.rld_turn.specs.declared.origin.Origin.{Origin}
use Rattle.rld_turn.specs.declared.subject.Subject.{Subject}
use Rattle.rld_turn.specs.declared.request.Entry.{Entry}
use Rattle.rld_turn.specs.declared.request.Entry.TheVariants.{Dropped, Refused, Bare, Moved}
use Rattle.rld_turn.specs.declared.request.Request.{Request}

-- what was answered of a batch, and the entries that are left of it
pub record AreAnswered (service : ServiceSeen) (port : Port) (Tells : Type 0) (moment : ℕ)
    (decisions : Option (List Decision)) (begun : ServerSeen) (taken : List PeerDatagram)
    (moves : List Move) (left : List Entry) (old new : List PeerDatagram)
    (knew knows : List Told → Type 0) : Type 0 where
  pub told : List Told
  pub done : List PeerDatagram
  pub rest : List PeerDatagram
  pub batch : List Move
  pub sent : List PeerDatagram
  pub all : taken ≡ done ++ rest
  pub entered : AreEntered service port moment rest left batch moves
  pub more_sent : Tells → new ≡ old ++ sent
  pub more_told : HasTold told knew knows
  pub turned : Turned service port moment (is_recorded decisions) begun told done batch sent

-- the answer to what waits, with the decision of these books
answered : (service : ServiceSeen) (port : Port) (moment : ℕ) (books : ServerSeen) (one : PeerDatagram)
    (moved : Option Move) (request : Request) (decision : Decision) (end : End)
    → IsRequest service port moment one moved request → decision ≡ decided books moved
    → IsSentAs (said_to request.kind decision) end
    → IsAnsweredBy service port moment books one moved (reply_of service request decision) end
answered service port moment books one moved request decision end waits is ended = record {
  fields = waits.answer.fields;
  client = request.client;
  meant = waits.meant;
  packet = ap (λ (d : PeerDatagram). packet_of d.octets) waits.is ∙ waits.answer.packet;
  known = subst (λ (o : Origin). client_number service.config o.source.address ≡ Some request.client) waits.origin waits.answer.known;
  understood = waits.understood;
  move = waits.move;
  peer = sym (ap (λ (d : PeerDatagram). d.peer) waits.is);
  octets = ap (λ found. answer_if service found request.client request.kind decision) waits.answer.packet
      ∙ ap (λ kind. answer_to service.config service.boot request.client waits.answer.fields kind decision) waits.kind
      ∙ ap (λ d. answer_to service.config service.boot request.client waits.answer.fields (kind_of waits.meant) d) is;
  ended =
      subst (λ (word : Said). IsSentAs word end)
      (ap (λ kind. said_to kind decision) waits.kind ∙ ap (λ d. said_to (kind_of waits.meant) d) is) ended;
}

-- by equal lists
lists : (service : ServiceSeen) (port : Port) (moment : ℕ) (recorded : Bool) (begun : ServerSeen)
    (told heard : List Told) (taken : List PeerDatagram) (batch others : List Move) (sent more : List PeerDatagram)
    → heard ≡ told → others ≡ batch → more ≡ sent
    → Turned service port moment recorded begun told taken batch sent
    → Turned service port moment recorded begun heard taken others more
lists service port moment recorded begun told heard taken batch others sent more i j k turned =
    subst (λ (l : List Told). Turned service port moment recorded begun l taken others more) (sym i)
    (subst (λ (l : List Move). Turned service port moment recorded begun told taken l more) (sym j)
    (subst (λ (l : List PeerDatagram). Turned service port moment recorded begun told taken batch l) (sym k) turned))

-- what is told of a request is told of its datagram
told_of_request : (service : ServiceSeen) (port : Port) (moment : ℕ) (told : List Told) (one : PeerDatagram)
    (moved : Option Move) (request : Request) (end other : End)
    → IsRequest service port moment one moved request → end ≡ other
    → told ++ told_by_request service.config request end ∷ []
    ≡ told ++ request_told service port one other ∷ []
told_of_request service port moment told one moved request end other waits is =
    same_told service.config told request.origin (origin_of service one.peer) request.octets.items one.octets
    (Some request.detail) (detail_of service.config port (source_of service one.peer) one.octets)
    (Some request.subject) (subject_in (meaning_of service port one)) end other
    waits.origin (sym (ap (λ (d : PeerDatagram). d.octets) waits.is)) (sym waits.detail)
    (ap (λ (s : Subject). Some s) waits.subject ∙ sym (ap subject_in waits.understood)) is

-- the decision on the move of an entry is that of the books at that point
decided_by : (service : ServiceSeen) (port : Port) (moment : ℕ) (begun : ServerSeen)
    (batch next moves : List Move) (rest : List PeerDatagram) (others : List Entry)
    (found : List Decision) (place : ℕ) (moved : Move) → found ≡ decisions_of begun moves
    → place ≡ length batch → next ≡ batch ++ moved ∷ []
    → AreEntered service port moment rest others next moves
    → decision_at found place ≡ decision_in (replay begun batch) moved
decided_by service port moment begun batch next moves rest others found place moved is at last entered =
    let after = goes_on service port moment rest others next moves entered in
    let whole : moves ≡ batch ++ moved ∷ after.0 =
    after.1 ∙ ap (λ (b : List Move). b ++ after.0) last ∙ append_assoc batch (moved ∷ []) after.0 in
    ap (λ (d : List Decision). decision_at d place) (is ∙ ap (decisions_of begun) whole)
    ∙ ap (decision_at (decisions_of begun (batch ++ moved ∷ after.0))) at
    ∙ decided_at begun batch moved after.0

-- a datagram more ended
turned_more : (service : ServiceSeen) (port : Port) (moment : ℕ) (decisions : Option (List Decision))
    (begun : ServerSeen) (told : List Told) (done rest : List PeerDatagram) (batch next moves : List Move)
    (sent : List PeerDatagram) (one : PeerDatagram) (entry : Entry) (others : List Entry) (end : End)
    → HasDecided begun moves decisions → IsEndOf decisions entry end
    → IsEntered service port moment one entry batch next
    → AreEntered service port moment rest others next moves
    → Turned service port moment (is_recorded decisions) begun told done batch sent
    → Turned service port moment (is_recorded decisions) begun (told ++ told_by service.config entry end ∷ []) (done ++ one ∷ []) next (sent ++ sent_by service decisions entry)
turned_more service port moment decisions begun told done rest batch next moves sent one (Dropped origin cause) others end decides ended (from, named, left_so) left turned =
    lists service port moment (is_recorded decisions) begun (told ++ bare_told service one (ends.Dropped cause) ∷ []) (told ++ told_of service.config origin [] None None end ∷ []) (done ++ one ∷ []) batch next sent (sent ++ [])
    (same_told service.config told origin (origin_of service one.peer) [] [] None None None None end (ends.Dropped cause) from refl refl refl ended) left_so (append-nil sent)
    (ThenDropped turned one cause named)
turned_more service port moment decisions begun told done rest batch next moves sent one (Refused origin) others end decides ended (from, refused, left_so) left turned =
    lists service port moment (is_recorded decisions) begun (told ++ bare_told service one ends.Refused ∷ []) (told ++ told_of service.config origin [] None None end ∷ []) (done ++ one ∷ []) batch next sent (sent ++ [])
    (same_told service.config told origin (origin_of service one.peer) [] [] None None None None end ends.Refused from refl refl refl ended) left_so (append-nil sent)
    (ThenRefused turned one refused)
turned_more service port moment decisions begun told done rest batch next moves sent one (Bare request) others end decides ended (waits, left_so) left turned =
    let reply : PeerDatagram = reply_of service request Done in
    lists service port moment (is_recorded decisions) begun (told ++ request_told service port one end ∷ []) (told ++ told_by_request service.config request end ∷ []) (done ++ one ∷ []) batch next (sent ++ reply ∷ []) (sent ++ reply ∷ [])
    (told_of_request service port moment told one None request end end waits refl) left_so refl
    (ThenBare turned one reply end (answered service port moment (replay begun batch) one None request Done end waits refl ended))
turned_more service port moment None begun told done rest batch next moves sent one (Moved request place) others end decides ended (moved, waits, last) left turned =
    lists service port moment false begun (told ++ request_told service port one ends.Unrecorded ∷ []) (told ++ told_by_request service.config request end ∷ []) (done ++ one ∷ []) (batch ++ moved ∷ []) next sent (sent ++ [])
    (told_of_request service port moment told one (Some moved) request end ends.Unrecorded waits ended) last.last (append-nil sent)
    (ThenUnrecorded turned one moved refl (record {
      meant = waits.meant;
      understood = waits.understood;
      move = waits.move;
    }))
turned_more service port moment (Some found) begun told done rest batch next moves sent one (Moved request place) others end decides ended (moved, waits, last) left turned =
    let reply : PeerDatagram = reply_of service request (decision_at found place) in
    lists service port moment true begun (told ++ request_told service port one end ∷ []) (told ++ told_by_request service.config request end ∷ []) (done ++ one ∷ []) (batch ++ moved ∷ []) next (sent ++ reply ∷ []) (sent ++ reply ∷ [])
    (told_of_request service port moment told one (Some moved) request end end waits refl) last.last refl
    (ThenAnswered turned one reply end moved refl
    (answered service port moment (replay begun batch) one (Some moved) request (decision_at found place) end waits
    (decided_by service port moment begun batch next moves rest others found place moved decides last.at last.last left) ended))

-- nothing more is left
pub all_answered : (service : ServiceSeen) (port : Port) (Tells : Type 0) (decisions : Option (List Decision))
    (entries : List Entry) (batch : Batch service port decisions entries) (left : List Entry) (old new : List PeerDatagram)
    (knew knows : List Told → Type 0) → left ≡ []
    → AreAnswered service port Tells batch.moment decisions batch.begun batch.taken batch.moves left old new knew knows
    → HasAnswered service port Tells decisions entries batch old new knew knows
all_answered service port Tells decisions entries batch left old new knew knows none so =
    let last = subst (λ (l : List Entry). AreEntered service port batch.moment so.rest l so.batch batch.moves) none so.entered in
    record {
      sent = so.sent;
      told = so.told;
      more_sent = so.more_sent;
      more_told = so.more_told;
      turned =
          subst (λ (t : List PeerDatagram). Turned service port batch.moment (is_recorded decisions) batch.begun so.told t batch.moves so.sent)
          (sym (so.all ∙ ap (λ (t : List PeerDatagram). so.done ++ t) last.0 ∙ append-nil so.done))
          (subst (λ (b : List Move). Turned service port batch.moment (is_recorded decisions) batch.begun so.told so.done b so.sent)
          (sym last.1) so.turned);
    }

-- none is answered yet
pub none_answered : (service : ServiceSeen) (port : Port) (Tells : Type 0) (decisions : Option (List Decision))
    (entries : List Entry) (batch : Batch service port decisions entries) (old : List PeerDatagram)
    (knows : List Told → Type 0)
    → AreAnswered service port Tells batch.moment decisions batch.begun batch.taken batch.moves entries old old knows knows
none_answered service port Tells decisions entries batch old knows = record {
  told = [];
  done = [];
  rest = batch.taken;
  batch = [];
  sent = [];
  all = refl;
  entered = batch.entered;
  more_sent = λ tells. sym (append-nil old);
  more_told = none_told knows;
  turned = NoneYet;
}

-- one more is answered
pub one_answered : (service : ServiceSeen) (port : Port) (Tells_then Tells : Type 0) (moment : ℕ) (decisions : Option (List Decision))
    (begun : ServerSeen) (taken : List PeerDatagram) (moves : List Move) (entry : Entry) (left others : List Entry)
    (end : End) (old mid new : List PeerDatagram) (knew between knows : List Told → Type 0)
    → left ≡ entry ∷ others → HasDecided begun moves decisions → IsEndOf decisions entry end
    → (Tells → Tells_then) → (Tells → new ≡ mid ++ sent_by service decisions entry)
    → HasTold (told_by service.config entry end ∷ []) between knows
    → AreAnswered service port Tells_then moment decisions begun taken moves left old mid knew between
    → AreAnswered service port Tells moment decisions begun taken moves others old new knew knows
one_answered service port Tells_then Tells moment decisions begun taken moves entry left others end old mid new knew between knows is decides ended before sends tells so =
    let f = subst (λ (l : List Entry). AreEntered service port moment so.rest l so.batch moves) is so.entered in
    record {
      told = so.told ++ told_by service.config entry end ∷ [];
      done = so.done ++ f.0 ∷ [];
      rest = f.1;
      batch = f.2;
      sent = so.sent ++ sent_by service decisions entry;
      all = so.all ∙ ap (λ (t : List PeerDatagram). so.done ++ t) f.3 ∙ sym (append_assoc so.done (f.0 ∷ []) f.1);
      entered = f.5;
      more_sent = λ t. sends t ∙ ap (λ (s : List PeerDatagram). s ++ sent_by service decisions entry) (so.more_sent (before t))
          ∙ append_assoc old so.sent (sent_by service decisions entry);
      more_told = more_told so.told (told_by service.config entry end ∷ []) knew between knows so.more_told tells;
      turned = turned_more service port moment decisions begun so.told so.done f.1 so.batch f.2 moves so.sent f.0 entry others end decides ended f.4 f.5 so.turned;
    }
