-- What an audit knows after each of its parts.
use Rattle.std.proofs.Common.{◌≡◌, List, [], ◌∷◌, ◌++◌, Option, Some, None, refl, sym, ap, subst, ◌∙◌, append_assoc, ℕ, zero, suc, ◌+◌, ◌^◌, ◌<◌, ◌≤◌, length, take, get_or, arith, length-append, length-take}
use Rattle.std.specs.Prelude.{IfErr, IfSome, Result, Ok, Err, slice_get}
use Rattle.std.proofs.lemmas.List.{append-nil, flat_map_more, take_all, take_more}
use Rattle.std.proofs.lemmas.Option.{slice_get-get_or}
use Rattle.rsl_accounts.specs.Configuration.{Configuration}
use Rattle.rsl_book.specs.RuledBook.{RuledBook}
use Rattle.rsl_event.specs.declared.event.Decision.{Decision}
use Rattle.rsl_shard.specs.Moves.{IsTaken}
use Rattle.rsl_shard.specs.Restep.{BooksSeen, books_after, decision_by, new_books, new_books_seen, restep}
use Rattle.rsl_shard.specs.Setup.{Setup, setup_of}
use Rattle.rsl_shard.specs.declared.line.Line.{Line}
use Rattle.rsl_shard.specs.declared.moved.Move.{Move}
use Rattle.rsl_record.proofs.AuditLaws.{decided_as_ruled, restepped-more}
use Rattle.rsl_record.specs.Chain.{HasTaken, IsNext, Takes}
use Rattle.rsl_record.specs.Audit.{AreJoined, AreRight, BeginsNew, IsFaultOfLines, IsFaultOfSegment, IsFaultOfSegments, IsFirstFault, IsRecord, IsRight, Joins}
use Rattle.rsl_record.specs.Segments.{lines_of}
use Rattle.rsl_record.specs.Restep.{books_by_restep, rule_decision}
use Rattle.rsl_record.specs.Walk.{IsFaultOfBeginning, IsFaultOfLine, IsChainOf}
use Rattle.rsl_record.specs.declared.audit_fault.AuditFault.{AuditFault}
use Rattle.rsl_record.specs.declared.audit_fault.AuditFault.TheVariants.{NotFromEmpty, Gap, WrongDecision, NoMemory}
use Rattle.rsl_record.specs.declared.chain.Chain.{Chain}
use Rattle.rsl_shard.specs.declared.segment.Segment.{Segment}

-- ---- a first segment

pub new_restepped : (config : Configuration) (shard : ℕ) → new_books config shard ≡ books_by_restep config shard []
unfolding books_by_restep restep
new_restepped config shard = refl

pub begins : (config : Configuration) (first : Segment) (chain : Chain) → first.shard < config.settings.shards → chain.lines ≡ 0
    → chain.books ≡ new_books_seen config first.shard → IsNext chain first → BeginsNew config first
begins config first chain within none new next = record {
  shard = within;
  first = next.first ∙ none;
  opening = next.opening ∙ ap (λ (seen : BooksSeen). seen.books) new ∙ new_restepped config first.shard;
}

pub begins_otherwise : (config : Configuration) (first : Segment) (chain : Chain) → chain.lines ≡ 0 → chain.books ≡ new_books_seen config first.shard
    → (IsNext chain first → ⊥) → BeginsNew config first → ⊥
begins_otherwise config first chain none new other begins =
    other (record {
      first = begins.first ∙ sym none;
      opening = begins.opening ∙ sym (new_restepped config first.shard) ∙ sym (ap (λ (seen : BooksSeen). seen.books) new);
    })

pub begun : (config : Configuration) (shard : ℕ) (chain : Chain) → shard < config.settings.shards → chain.lines ≡ 0 → chain.books ≡ new_books_seen config shard
    → IsChainOf config shard [] chain
begun config shard chain within none new = record {
  within = within;
  setup = ap (λ (seen : BooksSeen). seen.setup) new;
  books = ap (λ (seen : BooksSeen). seen.books) new ∙ new_restepped config shard;
  lines = none;
}

-- ---- a line

-- the shard of the record takes the move
taken_so : (config : Configuration) (shard : ℕ) (before : List Line) (old : Chain) (moved : Move) → IsChainOf config shard before old
    → IsTaken old.books.setup moved → IsTaken (setup_of config shard) moved
taken_so config shard before old moved is taken = subst (λ (setup : Setup). IsTaken setup moved) is.setup taken

-- the decision of the books is the rule's
ruled_so : (config : Configuration) (shard : ℕ) (before : List Line) (old new : Chain) (line : Line) (decision : Decision) → IsChainOf config shard before old
    → HasTaken old new line decision → decision ≡ rule_decision config before line.moved
ruled_so config shard before old new line decision is has =
    has.decided
    ∙ ap (λ (setup : Setup). decision_by setup old.books.books line.moved) is.setup
    ∙ ap (λ (books : List RuledBook). decision_by (setup_of config shard) books line.moved) is.books
    ∙ decided_as_ruled config shard before line.moved is.within (taken_so config shard before old line.moved is has.taken)

-- a line whose move is made with its decision
taken_with : (old new : Chain) (line : Line) (made : Option Decision) → Takes old new line made → made ≡ Some line.decision → HasTaken old new line line.decision
taken_with old new line made takes same = subst (Takes old new line) same takes

pub line_right : (config : Configuration) (shard : ℕ) (before : List Line) (old new : Chain) (line : Line) (made : Option Decision) → IsChainOf config shard before old
    → Takes old new line made → made ≡ Some line.decision → IsRight config shard before line
line_right config shard before old new line made is takes same =
    let has = taken_with old new line made takes same in
    record {
      taken = taken_so config shard before old line.moved is has.taken;
      ruled = ruled_so config shard before old new line line.decision is has;
    }

pub line_wrong : (config : Configuration) (shard : ℕ) (before : List Line) (old new : Chain) (line : Line) (made : Option Decision) → IsChainOf config shard before old
    → Takes old new line made → (made ≡ Some line.decision → ⊥) → IsRight config shard before line → ⊥
line_wrong config shard before old new line None is takes other right =
    takes.0 (subst (λ (setup : Setup). IsTaken setup line.moved) (sym is.setup) right.taken)
line_wrong config shard before old new line (Some decision) is takes other right =
    other (ap (λ (d : Decision). Some d) (ruled_so config shard before old new line decision is takes ∙ sym right.ruled))

pub line_counted : (old new : Chain) (line : Line) (made : Option Decision) → Takes old new line made → made ≡ Some line.decision → new.lines ≡ old.lines + 1
line_counted old new line made takes same = (taken_with old new line made takes same).lines

-- the chain of one line more
pub chain_more : (config : Configuration) (shard : ℕ) (before : List Line) (old new : Chain) (line : Line) (made : Option Decision) → IsChainOf config shard before old
    → Takes old new line made → made ≡ Some line.decision → IsChainOf config shard (before ++ line ∷ []) new
chain_more config shard before old new line made is takes same =
    let has = taken_with old new line made takes same in
    record {
      within = is.within;
      setup = has.setup ∙ is.setup;
      books =
          has.books
          ∙ ap (λ (setup : Setup). books_after setup old.books.books line.moved) is.setup
          ∙ ap (λ (books : List RuledBook). books_after (setup_of config shard) books line.moved) is.books
          ∙ sym (restepped-more config shard before line);
      lines = omega (arith, has.lines, is.lines, length-append before (line ∷ []));
    }

-- ---- lines

AreRight-more : (config : Configuration) (shard : ℕ) (before lines : List Line) (line : Line) → AreRight config shard before lines
    → IsRight config shard (before ++ lines) line → AreRight config shard before (lines ++ line ∷ [])
unfolding AreRight
AreRight-more config shard before [] line right more = (subst (λ (b : List Line). IsRight config shard b line) (append-nil before) more, tt)
AreRight-more config shard before (first ∷ lines) line right more = (
  right.0,
  AreRight-more config shard (before ++ first ∷ []) lines line right.1
      (subst (λ (b : List Line). IsRight config shard b line) (sym (append_assoc before (first ∷ []) lines)) more),
)

-- what the loop over lines keeps
pub record AreTaken (config : Configuration) (lines : List Line) (old now : Chain) (at : ℕ) : Type 0 where
  pub count : now.lines ≡ old.lines + at
  pub right : (shard : ℕ) (before : List Line) → IsChainOf config shard before old → AreRight config shard before (take at lines)
  pub chain : (shard : ℕ) (before : List Line) → IsChainOf config shard before old → IsChainOf config shard (before ++ take at lines) now

pub taken_none : (config : Configuration) (lines : List Line) (old : Chain) → AreTaken config lines old old 0
unfolding AreRight
taken_none config lines old = record {
  count = omega arith;
  right = λ shard before is. tt;
  chain = λ shard before is. subst (λ (b : List Line). IsChainOf config shard b old) (sym (append-nil before)) is;
}

take_one_more : (lines : List Line) (at : ℕ) (line : Line) → at < length lines → line ≡ get_or lines at line → take at lines ++ line ∷ [] ≡ take (at + 1) lines
take_one_more lines at line within is = ap (λ (l : Line). take at lines ++ l ∷ []) is ∙ sym (take_more lines at line within)

pub taken_more : (config : Configuration) (lines : List Line) (old now new : Chain) (at : ℕ) (line : Line) → at < length lines → line ≡ get_or lines at line
    → AreTaken config lines old now at → new.lines ≡ now.lines + 1
    → ((shard : ℕ) (before : List Line) → IsChainOf config shard before now → IsRight config shard before line)
    → ((shard : ℕ) (before : List Line) → IsChainOf config shard before now → IsChainOf config shard (before ++ line ∷ []) new)
    → AreTaken config lines old new (at + 1)
taken_more config lines old now new at line within is so_far count right more = record {
  count = omega (arith, so_far.count, count);
  right = λ shard before start.
      subst (AreRight config shard before) (take_one_more lines at line within is)
      (AreRight-more config shard before (take at lines) line (so_far.right shard before start) (right shard (before ++ take at lines) (so_far.chain shard before start)));
  chain = λ shard before start.
      subst (λ (b : List Line). IsChainOf config shard b new)
      (append_assoc before (take at lines) (line ∷ []) ∙ ap (λ (ls : List Line). before ++ ls) (take_one_more lines at line within is))
      (more shard (before ++ take at lines) (so_far.chain shard before start));
}

pub taken_right : (config : Configuration) (lines : List Line) (old now : Chain) (at : ℕ) → length lines ≤ at → AreTaken config lines old now at
    → (shard : ℕ) (before : List Line) → IsChainOf config shard before old → AreRight config shard before lines
taken_right config lines old now at past so_far shard before start =
    subst (AreRight config shard before) (take_all at lines past) (so_far.right shard before start)

pub taken_chain : (config : Configuration) (lines : List Line) (old now : Chain) (at : ℕ) → length lines ≤ at → AreTaken config lines old now at
    → (shard : ℕ) (before : List Line) → IsChainOf config shard before old → IsChainOf config shard (before ++ lines) now
taken_chain config lines old now at past so_far shard before start =
    subst (λ (ls : List Line). IsChainOf config shard (before ++ ls) now) (take_all at lines past) (so_far.chain shard before start)

-- a fault of a line is one of the lines among which it stands
pub fault_of_lines : (config : Configuration) (lines : List Line) (old now : Chain) (at : ℕ) (line : Line) (fault : AuditFault) → at < length lines
    → line ≡ get_or lines at line → AreTaken config lines old now at
    → ((shard : ℕ) (before : List Line) → IsChainOf config shard before now → IsFaultOfLine config shard before line fault)
    → (shard : ℕ) (before : List Line) → IsChainOf config shard before old → IsFaultOfLines config shard before lines fault
fault_of_lines config lines old now at line NotFromEmpty within is so_far wrong shard before start =
    wrong shard (before ++ take at lines) (so_far.chain shard before start)
fault_of_lines config lines old now at line (Gap number) within is so_far wrong shard before start =
    wrong shard (before ++ take at lines) (so_far.chain shard before start)
fault_of_lines config lines old now at line (WrongDecision account position) within is so_far wrong shard before start =
    let found = wrong shard (before ++ take at lines) (so_far.chain shard before start) in (
      at,
      line,
      record {
        right = so_far.right shard before start;
        there = slice_get-get_or lines at line within ∙ ap (λ (l : Line). Some l) (sym is);
        wrong = found.0;
      },
      found.1,
      omega (arith, found.2, length-append before (take at lines), length-take at lines, within),
    )
fault_of_lines config lines old now at line NoMemory within is so_far wrong shard before start = tt

-- ---- a segment

-- what a segment that goes on where a chain ends has to be
pub record Follows (now : Chain) (segment : Segment) : Type 0 where
  pub of_shard : segment.shard ≡ now.books.setup.shard
  pub room : segment.first + length segment.lines.items < 2 ^ 64
  pub next : IsNext now segment

pub joins_so : (config : Configuration) (shard : ℕ) (before : List Line) (now : Chain) (segment : Segment) → IsChainOf config shard before now
    → segment.shard ≡ now.books.setup.shard → segment.first + length segment.lines.items < 2 ^ 64 → IsNext now segment
    → Joins config shard before segment
joins_so config shard before now segment is of_shard room next =
    let first : segment.first ≡ length before = next.first ∙ is.lines in
    record {
      of_shard = of_shard ∙ ap (λ (setup : Setup). setup.shard) is.setup;
      first = first;
      count = subst (λ (n : ℕ). n + length segment.lines.items < 2 ^ 64) first room;
      opening = next.opening ∙ is.books;
    }

pub goes_on : (config : Configuration) (shard : ℕ) (before : List Line) (now : Chain) (segment : Segment) → IsChainOf config shard before now
    → Joins config shard before segment → Follows now segment
goes_on config shard before now segment is joins = record {
  of_shard = joins.of_shard ∙ sym (ap (λ (setup : Setup). setup.shard) is.setup);
  room = subst (λ (n : ℕ). n + length segment.lines.items < 2 ^ 64) (sym joins.first) joins.count;
  next = record {
    first = joins.first ∙ sym is.lines;
    opening = joins.opening ∙ sym is.books;
  };
}

-- a fault of its lines is one of the segment
pub fault_of_segment : (config : Configuration) (shard : ℕ) (before : List Line) (number : ℕ) (segment : Segment) (fault : AuditFault)
    → Joins config shard before segment → IsFaultOfLines config shard before segment.lines.items fault → IsFaultOfSegment config shard before number segment fault
fault_of_segment config shard before number segment NotFromEmpty joins found = found
fault_of_segment config shard before number segment (Gap named) joins found = absurd found
fault_of_segment config shard before number segment (WrongDecision account position) joins found = (joins, found)
fault_of_segment config shard before number segment NoMemory joins found = tt

-- ---- segments

AreJoined-more : (config : Configuration) (shard : ℕ) (before : List Line) (segments : List Segment) (segment : Segment) → AreJoined config shard before segments
    → Joins config shard (before ++ lines_of segments) segment → AreRight config shard (before ++ lines_of segments) segment.lines.items
    → AreJoined config shard before (segments ++ segment ∷ [])
unfolding AreJoined
AreJoined-more config shard before [] segment joined joins right =
    let same : before ++ [] ≡ before = append-nil before in
    (subst (λ (b : List Line). Joins config shard b segment) same joins, subst (λ (b : List Line). AreRight config shard b segment.lines.items) same right, tt)
AreJoined-more config shard before (first ∷ segments) segment joined joins right =
    let same : before ++ (first.lines.items ++ lines_of segments) ≡ (before ++ first.lines.items) ++ lines_of segments = sym (append_assoc before first.lines.items (lines_of segments)) in (
      joined.0,
      joined.1,
      AreJoined-more config shard (before ++ first.lines.items) segments segment joined.2
          (subst (λ (b : List Line). Joins config shard b segment) same joins)
          (subst (λ (b : List Line). AreRight config shard b segment.lines.items) same right),
    )

-- what the loop over segments keeps
pub record AreWalked (config : Configuration) (segments : List Segment) (old now : Chain) (number : ℕ) : Type 0 where
  pub joined : (shard : ℕ) → IsChainOf config shard [] old → AreJoined config shard [] (take number segments)
  pub chain : (shard : ℕ) → IsChainOf config shard [] old → IsChainOf config shard (lines_of (take number segments)) now

pub walked_none : (config : Configuration) (segments : List Segment) (old : Chain) → AreWalked config segments old old 0
unfolding AreJoined
walked_none config segments old = record { joined = λ shard start. tt; chain = λ shard start. start }

segment_one_more : (segments : List Segment) (number : ℕ) (segment : Segment) → number < length segments → segment ≡ get_or segments number segment
    → take number segments ++ segment ∷ [] ≡ take (number + 1) segments
segment_one_more segments number segment within is =
    ap (λ (s : Segment). take number segments ++ s ∷ []) is ∙ sym (take_more segments number segment within)

lines_one_more : (segments : List Segment) (segment : Segment) → lines_of segments ++ segment.lines.items ≡ lines_of (segments ++ segment ∷ [])
lines_one_more segments segment = flat_map_more (λ (s : Segment). s.lines.items) [] segments segment

pub walked_more : (config : Configuration) (segments : List Segment) (old now new : Chain) (number : ℕ) (segment : Segment) → number < length segments
    → segment ≡ get_or segments number segment → AreWalked config segments old now number
    → ((shard : ℕ) (before : List Line) → IsChainOf config shard before now → Joins config shard before segment)
    → ((shard : ℕ) (before : List Line) → IsChainOf config shard before now → AreRight config shard before segment.lines.items)
    → ((shard : ℕ) (before : List Line) → IsChainOf config shard before now → IsChainOf config shard (before ++ segment.lines.items) new)
    → AreWalked config segments old new (number + 1)
walked_more config segments old now new number segment within is so_far joins right more = record {
  joined = λ shard start.
      let at = so_far.chain shard start in
      subst (AreJoined config shard []) (segment_one_more segments number segment within is)
      (AreJoined-more config shard [] (take number segments) segment (so_far.joined shard start)
      (joins shard (lines_of (take number segments)) at) (right shard (lines_of (take number segments)) at));
  chain = λ shard start.
      subst (λ (b : List Line). IsChainOf config shard b new)
      (lines_one_more (take number segments) segment ∙ ap lines_of (segment_one_more segments number segment within is))
      (more shard (lines_of (take number segments)) (so_far.chain shard start));
}

pub walked_joined : (config : Configuration) (segments : List Segment) (old now : Chain) (number : ℕ) → length segments ≤ number
    → AreWalked config segments old now number → (shard : ℕ) → IsChainOf config shard [] old → AreJoined config shard [] segments
walked_joined config segments old now number past so_far shard start =
    subst (AreJoined config shard []) (take_all number segments past) (so_far.joined shard start)

pub fault_of_segments : (config : Configuration) (segments : List Segment) (old now : Chain) (number : ℕ) (segment : Segment) (fault : AuditFault)
    → number < length segments → segment ≡ get_or segments number segment → AreWalked config segments old now number
    → ((shard : ℕ) (before : List Line) → IsChainOf config shard before now → IsFaultOfSegment config shard before number segment fault)
    → (shard : ℕ) → IsChainOf config shard [] old → IsFaultOfSegments config shard segments fault
fault_of_segments config segments old now number segment fault within is so_far wrong shard start = (
  number,
  segment,
  record {
    joined = so_far.joined shard start;
    there = slice_get-get_or segments number segment within ∙ ap (λ (s : Segment). Some s) (sym is);
    told = wrong shard (lines_of (take number segments)) (so_far.chain shard start);
  },
)

-- ---- the record

pub fault_of_begin : (config : Configuration) (first : Segment) (segments : List Segment) (fault : AuditFault) → IsFaultOfBeginning config first fault
    → IsFirstFault config (first ∷ segments) fault
fault_of_begin config first segments NotFromEmpty found = found
fault_of_begin config first segments (Gap number) found = absurd found
fault_of_begin config first segments (WrongDecision account position) found = absurd found
fault_of_begin config first segments NoMemory found = tt

pub fault_of_walk : (config : Configuration) (first : Segment) (segments : List Segment) (fault : AuditFault) → BeginsNew config first
    → IsFaultOfSegments config first.shard (first ∷ segments) fault → IsFirstFault config (first ∷ segments) fault
fault_of_walk config first segments NotFromEmpty begins found = absurd found.2.told
fault_of_walk config first segments (Gap number) begins found = (begins, found)
fault_of_walk config first segments (WrongDecision account position) begins found = (begins, found)
fault_of_walk config first segments NoMemory begins found = tt

-- a line among right lines is right
right_at : (config : Configuration) (shard : ℕ) (before lines : List Line) (at : ℕ) (line : Line) → AreRight config shard before lines → slice_get lines at ≡ Some line
    → IsRight config shard (before ++ take at lines) line
unfolding AreRight
right_at config shard before [] at line right is = absurd (subst (λ (o : Option Line). IfSome o (λ l. ⊥)) is tt)
right_at config shard before (first ∷ lines) zero line right is =
    subst (λ (o : Option Line). IfSome o (λ l. IsRight config shard (before ++ []) l)) is
    (subst (λ (b : List Line). IsRight config shard b first) (sym (append-nil before)) right.0)
right_at config shard before (first ∷ lines) (suc at) line right is =
    subst (λ (b : List Line). IsRight config shard b line) (append_assoc before (first ∷ []) (take at lines))
    (right_at config shard (before ++ first ∷ []) lines at line right.1 is)

-- a segment among joined ones joins what comes before it, and its lines are right
joined_at : (config : Configuration) (shard : ℕ) (before : List Line) (segments : List Segment) (number : ℕ) (segment : Segment)
    → AreJoined config shard before segments → slice_get segments number ≡ Some segment
    → Joins config shard (before ++ lines_of (take number segments)) segment × AreRight config shard (before ++ lines_of (take number segments)) segment.lines.items
unfolding AreJoined
joined_at config shard before [] number segment joined is = absurd (subst (λ (o : Option Segment). IfSome o (λ s. ⊥)) is tt)
joined_at config shard before (first ∷ segments) zero segment joined is =
    subst (λ (o : Option Segment). IfSome o (λ s. Joins config shard (before ++ []) s × AreRight config shard (before ++ []) s.lines.items)) is
    (subst (λ (b : List Line). Joins config shard b first × AreRight config shard b first.lines.items) (sym (append-nil before)) (joined.0, joined.1))
joined_at config shard before (first ∷ segments) (suc number) segment joined is =
    subst (λ (b : List Line). Joins config shard b segment × AreRight config shard b segment.lines.items) (append_assoc before first.lines.items (lines_of (take number segments)))
    (joined_at config shard (before ++ first.lines.items) segments number segment joined.2 is)

-- a record with a fault other than want of memory was not kept right
pub fault_is_there : (config : Configuration) (segments : List Segment) (fault : AuditFault) → IsFirstFault config segments fault → (fault ≡ NoMemory → ⊥)
    → IsRecord config segments → ⊥
fault_is_there config [] fault found other kept = found
fault_is_there config (first ∷ segments) NotFromEmpty found other kept = found kept.0
fault_is_there config (first ∷ segments) (Gap named) found other kept =
    let number = found.1.0 in
    let segment = found.1.1 in
    found.1.2.told.1 (joined_at config first.shard [] (first ∷ segments) number segment kept.1 found.1.2.there).0
fault_is_there config (first ∷ segments) (WrongDecision account position) found other kept =
    let number = found.1.0 in
    let segment = found.1.1 in
    let lines = found.1.2.told.1 in
    lines.2.wrong
    (right_at config first.shard (lines_of (take number (first ∷ segments))) segment.lines.items lines.0 lines.1
    (joined_at config first.shard [] (first ∷ segments) number segment kept.1 found.1.2.there).1 lines.2.there)
fault_is_there config (first ∷ segments) NoMemory found other kept = other refl

-- after the first segment has begun, a fault of the walk is one of the record
pub told_by_walk : {T : Type 0} (config : Configuration) (first : Segment) (segments all : List Segment) (result : Result T AuditFault) → all ≡ first ∷ segments
    → BeginsNew config first → IfErr result (IsFaultOfSegments config first.shard all) → IfErr result (IsFirstFault config all)
told_by_walk config first segments all (Ok done) is begins found = tt
told_by_walk config first segments all (Err fault) is begins found =
    subst (λ (each : List Segment). IsFirstFault config each fault) (sym is)
    (fault_of_walk config first segments fault begins (subst (λ (each : List Segment). IsFaultOfSegments config first.shard each fault) is found))

pub told_by_walk_get : {T : Type 0} (config : Configuration) (first : Segment) (all : List Segment) (result : Result T AuditFault) → slice_get all 0 ≡ Some first
    → BeginsNew config first → IfErr result (IsFaultOfSegments config first.shard all) → IfErr result (IsFirstFault config all)
told_by_walk_get config first [] result is begins found = cc
told_by_walk_get config first (one ∷ segments) result is begins found =
    let same : one ≡ first = cc in
    told_by_walk config first segments (one ∷ segments) result (ap (λ (s : Segment). s ∷ segments) same) begins found

pub told_exactly : {T : Type 0} (config : Configuration) (all : List Segment) (result : Result T AuditFault) → IfErr result (IsFirstFault config all)
    → IfErr result (λ fault. (fault ≡ NoMemory → ⊥) → IsRecord config all → ⊥)
told_exactly config all (Ok done) found = tt
told_exactly config all (Err fault) found = fault_is_there config all fault found

pub ruleset beginning = (begins, begins_otherwise, begun)

pub ruleset line_taken = (line_right, line_wrong, line_counted, chain_more)

pub ruleset lines_taken = (taken_none, taken_more, taken_right, taken_chain, fault_of_lines)

pub ruleset segment_joined = (joins_so, goes_on)

pub ruleset segments_walked = (walked_none, walked_more, walked_joined, fault_of_segments)

pub ruleset record_told = (fault_of_begin, told_by_walk, told_by_walk_get, told_exactly, fault_is_there)
