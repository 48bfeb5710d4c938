-- The answers to asks, from what a turn did.
use Rattle.std.proofs.Common.{◌≡◌, ◌<◌, ◌+◌, ℕ, zero, suc, Bool, true, false, List, [], ◌∷◌, ◌++◌, length, take, drop, refl, sym, ap, subst, ◌∙◌, ◌⊎◌, inl, inr, arith}
use Rattle.std.specs.Prelude.{map, slice_get, Option, Some, None, IfNone, IfSome, MatchOption, Vec}
use Rattle.std.specs.List.{HoldsAt}
use Rattle.std.specs.declared.alloc.Global.{Global}
use Rattle.std.proofs.lemmas.List.{append_assoc, map-append, take-append-drop, take-map}
use Rattle.std.specs.declared.net.socket_addr.SocketAddr.{SocketAddr}
use Rattle.rsl_port.specs.Told.{datagram_of}
use Rattle.rld_ask.specs.Request.{ask_octets}
use Rattle.rld_ask.specs.declared.asked.Answer.{Answer}
use Rattle.rld_ask.specs.declared.form.AskForm.{AskForm}
use Rattle.rld_networks.specs.declared.network.Network.{Network}
use Rattle.rld_store.specs.Recorded.{RecordedSeen}
use Rattle.rld_turn.specs.Present.{PeerDatagram}
use Rattle.rld_turn.specs.Recorded.{books_before, is_recorded}
use Rattle.rld_turn.specs.Told.{HasTold, Told, told_as}
use Rattle.rld_turn.specs.Turned.{State, Turned}
use Rattle.rld_turn.specs.declared.watch.Ended.{Ended}
use Rattle.rsl_accounts.specs.Configuration.{Configuration, client_number}
use Rattle.rsl_accounts.specs.declared.client.Client.{Client}
use Rattle.rsl_event.specs.declared.meaning.Port.{Port}
use Rattle.rsl_event.specs.declared.meaning.Port.TheVariants.{Auth}
use Rattle.rld_current.specs.Asking.{AreAnswers, AreAnswersTo, answers_told, told_in}
use Rattle.rld_current.specs.Noting.{HasKept, HasNoted, noted_if, noted_in, noted_of}
use Rattle.rld_current.specs.Requests.{AreFirst, AreRequests, IsPeerOf, datagrams_of}
use Rattle.rld_current.specs.Turning.{HasTurnedWith}
use Rattle.rld_current.specs.declared.ask_watch.Noted.{Noted}

some_is : {A : Type 0} (a b : A) → Some a ≡ Some b → a ≡ b
some_is a b same = cc

take_none : (n : ℕ) (none : List (List ℕ)) → none ≡ [] → take n none ≡ []
take_none zero none is = refl
take_none (suc n) [] is = refl
take_none (suc n) (one ∷ others) is = cc

-- the first of the first requests are first requests
first_of : (secret : List ℕ) (asks : List AskForm) (requests : List (List ℕ)) (n : ℕ)
    → AreFirst secret asks requests → AreFirst secret asks (take n requests)
first_of secret asks requests n first = record {
  others = drop n requests ++ first.others;
  are =
      first.are
      ∙ ap (λ (some : List (List ℕ)). some ++ first.others) (sym (take-append-drop n requests))
      ∙ append_assoc (take n requests) (drop n requests) first.others;
}

-- the same, of a client that is there or is not
some_requests : (config : Configuration) (number : Option ℕ) (asks : List AskForm) (requests : List (List ℕ)) (n : ℕ)
    → MatchOption number (requests ≡ []) (λ number. IfSome (slice_get config.clients number) (λ one. AreFirst one.secret asks requests))
    → MatchOption number (take n requests ≡ []) (λ number. IfSome (slice_get config.clients number) (λ one. AreFirst one.secret asks (take n requests)))
some_requests config None asks requests n none = take_none n requests none
some_requests config (Some number) asks requests n first = of (slice_get config.clients number) first
  where
    of : (one : Option Client) → IfSome one (λ one. AreFirst one.secret asks requests)
        → IfSome one (λ one. AreFirst one.secret asks (take n requests))
    of None first = tt
    of (Some one) first = first_of one.secret asks requests n first

-- requests of the first of some asks, of a client that is there or is not
pub first_requests : (clients : List Client) (number : ℕ) (asks : List AskForm) (requests : List (List ℕ)) (n : ℕ)
    → IfSome (slice_get clients number) (λ one. requests ≡ map (λ (ask : AskForm). ask_octets ask one.secret) (take n asks))
    → IfSome (slice_get clients number) (λ one. AreFirst one.secret asks requests)
first_requests clients number asks requests n so_far = of (slice_get clients number) so_far
  where
    of : (one : Option Client)
        → IfSome one (λ one. requests ≡ map (λ (ask : AskForm). ask_octets ask one.secret) (take n asks))
        → IfSome one (λ one. AreFirst one.secret asks requests)
    of None so_far = tt
    of (Some one) so_far =
        let octets : AskForm → List ℕ = λ ask. ask_octets ask one.secret in
        record {
          others = map octets (drop n asks);
          are =
              ap (λ (some : List AskForm). map octets some) (sym (take-append-drop n asks))
              ∙ map-append octets (take n asks) (drop n asks)
              ∙ ap (λ (some : List (List ℕ)). some ++ map octets (drop n asks)) (sym so_far);
        }

-- a request more is taken
taken_more : (peer : SocketAddr) (requests : List (Vec ℕ Global)) (n : ℕ) (request : Vec ℕ Global) (taken : List ℕ)
    → n < length requests → HoldsAt (λ (one : Vec ℕ Global). request ≡ one) requests n → taken ≡ request.items
    → take (suc n) (datagrams_of peer (map (λ (request : Vec ℕ Global). request.items) requests))
    ≡ take n (datagrams_of peer (map (λ (request : Vec ℕ Global). request.items) requests)) ++ datagram_of peer taken ∷ []
taken_more peer [] n request taken there at is = absurd (omega (arith, there))
taken_more peer (first ∷ others) zero request taken there at is =
    ap (λ (octets : List ℕ). datagram_of peer octets ∷ []) (ap (λ (some : Vec ℕ Global). some.items) (sym (at first)) ∙ sym is)
taken_more peer (first ∷ others) (suc n) request taken there at is =
    ap (λ (some : List PeerDatagram). datagram_of peer first.items ∷ some)
    (taken_more peer others n request taken (omega (arith, there)) at is)

pub one_taken : (peer : SocketAddr) (requests : List (Vec ℕ Global)) (n : ℕ) (request : Vec ℕ Global) (taken : List ℕ)
    → n < length requests → HoldsAt (λ (one : Vec ℕ Global). request ≡ one) requests n → taken ≡ request.items
    → take (n + 1) (datagrams_of peer (map (λ (request : Vec ℕ Global). request.items) requests))
    ≡ take n (datagrams_of peer (map (λ (request : Vec ℕ Global). request.items) requests)) ++ datagram_of peer taken ∷ []
one_taken peer requests n request taken there at is =
    let next : n + 1 ≡ suc n = omega arith in
    ap (λ (m : ℕ). take m (datagrams_of peer (map (λ (request : Vec ℕ Global). request.items) requests))) next
    ∙ taken_more peer requests n request taken there at is

-- what a watcher learns is kept, or something was lost
pub noted_more : (was_whole is_whole : Bool) (old new : List Noted) (ended : Ended)
    → HasKept (noted_of ended) was_whole is_whole old new
    → HasTold (told_as ended ∷ []) (HasNoted was_whole old) (HasNoted is_whole new)
noted_more was_whole is_whole old new ended kept = λ before known whole.
    kept.more whole ∙ ap (λ (l : List Noted). l ++ noted_of ended ∷ []) (known (kept.whole whole))
    ∙ sym (map-append noted_in before (told_as ended ∷ []))

-- answers that say nothing are none
none_said : (answers : List Answer) → map told_in answers ≡ [] → answers ≡ []
none_said [] none = refl
none_said (answer ∷ others) none = cc

-- the answers to asks whose requests were taken in a turn, of which a watcher has kept how they ended
pub are_answers : (config : Configuration) (networks : List Network) (boot table : ℕ) (client : List ℕ)
    (asks : List AskForm) (answers : List Answer) (requests : List (List ℕ)) (peer : SocketAddr) (n : ℕ)
    (Tells : Type 0) (recorded : Option RecordedSeen) (old new : State)
    (knew : List Told → Type 0) (is_whole : Bool) (noted : List Noted)
    → AreRequests config client asks requests → IsPeerOf client peer
    → HasTurnedWith config networks boot table Auth Tells recorded old new knew (HasNoted is_whole noted)
    → knew [] → Tells → old.taken ≡ [] → old.sent ≡ [] → new.taken ≡ take n (datagrams_of peer requests)
    → AreAnswers (noted_if is_whole noted) new.sent answers
    → (answers ≡ []) ⊎ AreAnswersTo config networks boot table client (noted_if is_whole noted) asks answers
are_answers config networks boot table client asks answers requests peer n Tells recorded old new knew false noted of_asks of_client turn knows tells taken sent given (inl none) =
    inl none
are_answers config networks boot table client asks answers requests peer n Tells recorded old new knew false noted of_asks of_client turn knows tells taken sent given (inr said) =
    inl (none_said answers said)
are_answers config networks boot table client asks answers requests peer n Tells recorded old new knew true noted of_asks of_client turn knows tells taken sent given (inl none) =
    inl none
are_answers config networks boot table client asks answers requests peer n Tells recorded old new knew true noted of_asks of_client turn knows tells taken sent given (inr said) =
    let decided = turn.decided in
    let told : noted ≡ map noted_in decided.told = decided.more_told [] knows refl in
    let replies : new.sent ≡ decided.sent = decided.more_sent tells ∙ ap (λ (l : List PeerDatagram). l ++ decided.sent) sent in
    let first : decided.taken ≡ datagrams_of peer (take n requests) =
    sym (decided.more_taken tells ∙ ap (λ (l : List PeerDatagram). l ++ decided.taken) taken)
    ∙ given ∙ take-map (λ (request : List ℕ). datagram_of peer request) n requests in
    inr (record {
      service = turn.service;
      requests = take n requests;
      peer = peer;
      told = decided.told;
      batch = decided.batch;
      replies = decided.sent;
      moment = decided.moment;
      recorded = recorded;
      served = turn.served;
      of_asks = some_requests config (client_number config client) asks requests n of_asks;
      of_client = of_client;
      of_table = turn.of_table;
      whole = decided.whole;
      turned =
          subst (λ (l : List PeerDatagram). Turned turn.service Auth decided.moment (is_recorded recorded) (books_before recorded) decided.told l decided.batch decided.sent)
          first decided.turned;
      kept = told;
      are = said ∙ ap (λ (l : List PeerDatagram). answers_told noted l) replies;
    })

-- the same, where the replies were kept or one of them was lost
pub told_answers : {D : Type 0} → (items : D → List PeerDatagram) → (config : Configuration) (networks : List Network) (boot table : ℕ) (client : List ℕ)
    (asks : List AskForm) (answers : List Answer) (requests : List (List ℕ)) (peer : SocketAddr) (n : ℕ)
    (port : Port) (recorded : Option RecordedSeen) (old new : State)
    (knew : List Told → Type 0) (is_whole tells : Bool) (noted : List Noted)
    (kept : D) (found : Option D)
    → AreRequests config client asks requests → IsPeerOf client peer
    → port ≡ Auth → HasTurnedWith config networks boot table port (tells ≡ true) recorded old new knew (HasNoted is_whole noted)
    → knew [] → old.taken ≡ [] → old.sent ≡ [] → new.taken ≡ take n (datagrams_of peer requests) → new.sent ≡ items kept
    → IfSome found (λ replies. (replies ≡ kept) × (tells ≡ true))
    → IfNone found (answers ≡ [])
    → IfSome found (λ replies. AreAnswers (noted_if is_whole noted) (items replies) answers)
    → (answers ≡ []) ⊎ AreAnswersTo config networks boot table client (noted_if is_whole noted) asks answers
told_answers items config networks boot table client asks answers requests peer n port recorded old new knew is_whole tells noted kept None of_asks of_client auth turn knows taken sent given last whole lost said =
    inl lost
told_answers items config networks boot table client asks answers requests peer n port recorded old new knew is_whole tells noted kept (Some replies) of_asks of_client auth turn knows taken sent given last whole lost said =
    are_answers config networks boot table client asks answers requests peer n (tells ≡ true) recorded old new knew is_whole noted
    of_asks of_client
    (subst (λ (on : Port). HasTurnedWith config networks boot table on (tells ≡ true) recorded old new knew (HasNoted is_whole noted)) auth turn)
    knows whole.1 taken sent given
    (subst (λ (l : List PeerDatagram). AreAnswers (noted_if is_whole noted) l answers)
    (ap items whole.0 ∙ sym last) said)
