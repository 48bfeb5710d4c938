-- What a step of a connection says of the head that it has read.
use Rattle.std.proofs.Common.{◌≡◌, ℕ, List, refl, ap, sym, ◌∙◌, subst}
use Rattle.std.specs.Prelude.{Bool, true, false, bytes_eq, codes, if◌then◌else◌, map, not, Option, Some, None}
use Rattle.httparse.specs.Grammar.{RequestHead}
use Rattle.httparse.specs.Spans.{IsRequestAt, name_and_value}
use Rattle.httparse.specs.declared.spans.HeaderSpan.{HeaderSpan}
use Rattle.httparse.specs.declared.spans.RequestSpans.{RequestSpans}
use Rattle.http1.specs.Server.{ReadsAt, ReadsHead, ServerReads, TakesHead}
use Rattle.http1.specs.declared.conn.Event.{Event}
use Rattle.http1.specs.declared.conn.Event.TheVariants as events
use Rattle.http1.specs.declared.conn.Progress.{Progress}
use Rattle.http1.specs.declared.conn.Reading.{Reading}
use Rattle.http1.specs.declared.conn.Reading.TheVariants as readings
use Rattle.http1.specs.declared.server.Server.{Server}
use Rattle.rld_ask.specs.Heads.{HasShown, IsJudged, is_shown_by, refusal_by, shows_token}
use Rattle.rld_ask.specs.declared.refusal.Refusal.{Refusal}
use Rattle.rld_ask.specs.declared.refusal.Refusal.TheVariants.{Token, Path, Method}

-- where a head is due, the event is what is found there
at_head : (old : Server) (input : List ℕ) (spans : List HeaderSpan) (new : Server) (read : Progress RequestSpans) (event : Event RequestSpans) →
    old.reading ≡ readings.Head → read.event ≡ event → ServerReads old input spans new read →
    ReadsHead old input spans new read.consumed event
at_head old input spans new read event is_head is_event reads =
    subst (λ (e : Event RequestSpans). ReadsHead old input spans new read.consumed e) is_event
    (subst (λ (r : Reading). ReadsAt r old input spans new read) is_head reads)

pub judged : (old : Server) (input : List ℕ) (spans : List HeaderSpan) (new : Server) (read : Progress RequestSpans) (r : RequestSpans)
    (credentials : List ℕ) (refusal : Option Refusal) →
    old.reading ≡ readings.Head → read.event ≡ events.Head r → ServerReads old input spans new read →
    ((found : RequestHead) → IsRequestAt input spans r found → refusal ≡ refusal_by credentials found) →
    IsJudged credentials old.limits input refusal
judged old input spans new read r credentials refusal is_head is_event reads all =
    let takes : TakesHead old input spans new read.consumed r = at_head old input spans new read (events.Head r) is_head is_event reads in
    record { head = takes.head; framing = takes.framing; len = read.consumed; accepts = takes.accepts; is = all takes.head takes.covered }

-- what is not refused for want of the token has shown it
shown_where : (shows path method : Bool) →
    is_shown_by (if not shows then Some Token else if not path then Some Path else if not method then Some Method else None) ≡ true →
    shows ≡ true
shown_where true path method is = refl
shown_where false path method is = is

pub shown : (old : Server) (input : List ℕ) (spans : List HeaderSpan) (new : Server) (read : Progress RequestSpans) (r : RequestSpans)
    (credentials : List ℕ) (refusal : Option Refusal) →
    old.reading ≡ readings.Head → read.event ≡ events.Head r → ServerReads old input spans new read →
    ((found : RequestHead) → IsRequestAt input spans r found → refusal ≡ refusal_by credentials found) →
    is_shown_by refusal ≡ true → HasShown credentials old.limits input
shown old input spans new read r credentials refusal is_head is_event reads all is =
    let takes : TakesHead old input spans new read.consumed r = at_head old input spans new read (events.Head r) is_head is_event reads in
    record {
      head = takes.head;
      framing = takes.framing;
      len = read.consumed;
      accepts = takes.accepts;
      shows = shown_where (shows_token credentials (map name_and_value takes.head.fields)) (bytes_eq takes.head.target (codes "/ask"))
          (bytes_eq takes.head.method (codes "POST")) (sym (ap is_shown_by (all takes.head takes.covered)) ∙ is);
    }

pub no_data : (old : Server) (input : List ℕ) (spans : List HeaderSpan) (new : Server) (read : Progress RequestSpans) (piece : _) →
    old.reading ≡ readings.Head → read.event ≡ events.Data piece → ServerReads old input spans new read → ⊥
no_data old input spans new read piece is_head is_event reads = at_head old input spans new read (events.Data piece) is_head is_event reads

pub no_end : (old : Server) (input : List ℕ) (spans : List HeaderSpan) (new : Server) (read : Progress RequestSpans) (count : ℕ) →
    old.reading ≡ readings.Head → read.event ≡ events.End count → ServerReads old input spans new read → ⊥
no_end old input spans new read count is_head is_event reads = at_head old input spans new read (events.End count) is_head is_event reads
