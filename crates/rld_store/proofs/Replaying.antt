-- The moves of a generation, made batch by batch.
use Rattle.std.proofs.Common.{◌≡◌, Bor, Some, ℕ, ◌+◌, ◌-◌, ◌<◌, List, [], ◌∷◌, ◌++◌, drop, get_or, length, map, take, refl, sym, ap, subst, ◌∙◌, arith, append_assoc, length-append}
use Rattle.std.specs.Prelude.{slice_get}
use Rattle.std.specs.List.{AllByRecursion}
use Rattle.std.specs.Option.{option_map}
use Rattle.std.proofs.lemmas.List.{drop_more, get_or_default, nil_from_length, take-append-drop, take_more}
use Rattle.std.proofs.lemmas.Option.{get_or_from_slice_get, slice_get-map, slice_get_read, slice_get_within}
use Rattle.rsl_accounts.specs.Configuration.{Configuration}
use Rattle.rsl_shard.specs.declared.moved.Move.{Move}
use Rattle.rld_books.specs.Saved.{IsServerOf}
use Rattle.rld_books.specs.Server.{ServerSeen, replay, server_after}
use Rattle.rld_log.specs.Frames.{Fits, frames}
use Rattle.rld_spelling.specs.Headers.{header_at, header_field}
use Rattle.rld_spelling.specs.Moves.{moves_field}
use Rattle.rld_spelling.specs.declared.header.Header.{Header}
use Rattle.rld_spelling.specs.declared.moves.Counts.{Counts}
use Rattle.rld_store.specs.Generations.{AreBatches, IsSnapshot, counts_of, front_octets, moves_in, octets_of}
use Rattle.rld_store.specs.Opening.{AreParts, AreReplayed, IsAt, IsBatchAt, IsFrontFault, IsFoundIn, IsMalformed, IsThere, IsWhyNoBooks, IsWhyNoMoves, IsWhyNoParts, IsWhyOther, IsWhyUnread}
use Rattle.rld_store.specs.declared.fault.Malformed.{Malformed}
use Rattle.rld_store.specs.declared.fault.StoreFault.{StoreFault}
use Rattle.rld_store.specs.declared.fault.StoreFault.TheVariants as faults
use Rattle.rld_store.specs.declared.parts.Parts.{Parts}
use Rattle.rld_store.proofs.Batches.{batches_more, replay_first, replay_more, replay_none, size_more}
use Rattle.rld_store.proofs.Fronts.{front_size}

-- ---- one batch

pub step_left : (now next all : ServerSeen) (left rest : List Move) (moved : Move) → replay now left ≡ all → left ≡ moved ∷ rest → next ≡ server_after now moved → replay next rest ≡ all
step_left now next all left rest moved so is stepped = ap (λ (b : ServerSeen). replay b rest) stepped ∙ replay_first now moved rest ∙ ap (replay now) (sym is) ∙ so

pub none_left : (now all : ServerSeen) (left : List Move) → replay now left ≡ all → length left ≡ 0 → now ≡ all
none_left now all left so none = sym (ap (replay now) (nil_from_length left none) ∙ replay_none now) ∙ so

-- ---- batch by batch

-- so far these books were made, and these payloads are left
pub record IsOn (counts : Counts) (begun : ServerSeen) (moves : List Move) (left : List (List ℕ)) (books : ServerSeen) (count : ℕ) : Type 0 where
  pub rest : List Move
  pub rest_are : AreBatches counts rest left
  pub books_so : replay books rest ≡ replay begun moves
  pub count_so : count + length rest ≡ length moves

abbrev pub HasReplayed : Counts → (begun : ServerSeen) → (payloads left : List (List ℕ)) → (books : ServerSeen) → (count : ℕ) → Type 0
HasReplayed counts begun payloads left books count = (moves : List Move) → AreBatches counts moves payloads → IsOn counts begun moves left books count

pub replayed_none : (counts : Counts) (begun : ServerSeen) (payloads : List (List ℕ)) → HasReplayed counts begun payloads payloads begun 0
replayed_none counts begun payloads moves so = record { rest = moves; rest_are = so; books_so = refl; count_so = omega arith }

pub replayed_more : (counts : Counts) (begun : ServerSeen) (payloads left rest : List (List ℕ)) (books next : ServerSeen) (count more : ℕ) (payload : List ℕ) (read : List Move)
    → HasReplayed counts begun payloads left books count → left ≡ payload ∷ rest
    → ((batch : List Move) → (moves_field counts).Fits batch → payload ≡ (moves_field counts).spell batch → read ≡ batch) → next ≡ replay books read → more ≡ count + length read
    → HasReplayed counts begun payloads rest next more
replayed_more counts begun payloads left rest books next count more payload read so is only made counted moves of =
    by (so moves of).rest_are.batches (sym is ∙ (so moves of).rest_are.spelled) (so moves of).rest_are.fit (so moves of).rest_are.are
  where
    by : (batches : List (List Move)) → payload ∷ rest ≡ map (moves_field counts).spell batches → AllByRecursion (moves_field counts).Fits batches → (so moves of).rest ≡ moves_in batches
        → IsOn counts begun moves rest next more
    by [] spelled fit are = absurd (cc spelled)
    by (batch ∷ batches) spelled fit are =
        let one : payload ≡ (moves_field counts).spell batch = cc spelled in
        let others : rest ≡ map (moves_field counts).spell batches = cc spelled in
        let same : read ≡ batch = only batch fit.0 one in
        record {
          rest = moves_in batches;
          rest_are = record { batches = batches; are = refl; fit = fit.1; spelled = others };
          books_so = ap (λ (b : ServerSeen). replay b (moves_in batches)) (made ∙ ap (replay books) same) ∙ sym (replay_more books batch (moves_in batches))
              ∙ ap (replay books) (sym are) ∙ (so moves of).books_so;
          count_so = omega (arith, counted, (so moves of).count_so, ap length same, ap length are, length-append batch (moves_in batches));
        }

-- no payloads are no moves
none_are : (counts : Counts) (rest : List Move) (left : List (List ℕ)) → left ≡ [] → (so : AreBatches counts rest left) → rest ≡ []
none_are counts rest left none so = so.are ∙ by so.batches (sym none ∙ so.spelled)
  where
    by : (batches : List (List Move)) → [] ≡ map (moves_field counts).spell batches → moves_in batches ≡ []
    by [] e = refl
    by (batch ∷ batches) e = absurd (cc e)

pub replayed_books : (counts : Counts) (begun : ServerSeen) (payloads left : List (List ℕ)) (books : ServerSeen) (count : ℕ)
    → HasReplayed counts begun payloads left books count → left ≡ [] → (moves : List Move) → AreBatches counts moves payloads → books ≡ replay begun moves
replayed_books counts begun payloads left books count so none moves of =
    sym (ap (replay books) (none_are counts (so moves of).rest left none (so moves of).rest_are) ∙ replay_none books) ∙ (so moves of).books_so

pub replayed_count : (counts : Counts) (begun : ServerSeen) (payloads left : List (List ℕ)) (books : ServerSeen) (count : ℕ)
    → HasReplayed counts begun payloads left books count → left ≡ [] → (moves : List Move) → AreBatches counts moves payloads → count ≡ length moves
replayed_count counts begun payloads left books count so none moves of =
    let nothing : length {A = Move} [] ≡ 0 = refl in
    omega (arith, (so moves of).count_so, nothing, ap length (none_are counts (so moves of).rest left none (so moves of).rest_are))

-- the payload at an index
pub there_in : (payloads : List (Bor (List ℕ))) (at : ℕ) (d : Bor (List ℕ)) → at < length payloads → slice_get (map (λ (payload : Bor (List ℕ)). payload.now) payloads) at ≡ Some (get_or payloads at d).now
there_in payloads at d within =
    slice_get-map (λ (payload : Bor (List ℕ)). payload.now) payloads at
    ∙ ap (option_map (λ (payload : Bor (List ℕ)). payload.now)) (slice_get_read payloads (length payloads) at (get_or payloads at d) refl within (get_or_default payloads at d (get_or payloads at d) within))

pub at_drop : (payloads : List (List ℕ)) (at : ℕ) (payload : List ℕ) → slice_get payloads at ≡ Some payload → drop at payloads ≡ payload ∷ drop (at + 1) payloads
at_drop payloads at payload is =
    drop_more payloads at payload (slice_get_within payloads at payload is) ∙ ap (λ (p : List ℕ). p ∷ drop (at + 1) payloads) (get_or_from_slice_get payloads at payload payload is)

-- ---- the batches that were spelled so far

take_next : (payloads : List (List ℕ)) (at : ℕ) (payload : List ℕ) → slice_get payloads at ≡ Some payload → take (at + 1) payloads ≡ take at payloads ++ payload ∷ []
take_next payloads at payload is =
    take_more payloads at payload (slice_get_within payloads at payload is)
    ∙ ap (λ (p : List ℕ). take at payloads ++ p ∷ []) (get_or_from_slice_get payloads at payload payload is)

pub none_spelled : (counts : Counts) (begun : ServerSeen) → AreReplayed counts [] begun begun 0
none_spelled counts begun = record {
  moves = [];
  batches = record { batches = []; are = refl; fit = tt; spelled = refl };
  books_are = sym (replay_none begun);
  count_is = refl;
}

pub spelled_more : (counts : Counts) (begun : ServerSeen) (payloads : List (List ℕ)) (at : ℕ) (books next : ServerSeen) (count more : ℕ) (payload : List ℕ) (read : List Move)
    → slice_get payloads at ≡ Some payload → AreReplayed counts (take at payloads) begun books count
    → payload ≡ (moves_field counts).spell read → (moves_field counts).Fits read → next ≡ replay books read → more ≡ count + length read
    → AreReplayed counts (take (at + 1) payloads) begun next more
spelled_more counts begun payloads at books next count more payload read there so spelled fit made counted = record {
  moves = so.moves ++ read;
  batches = subst (λ (l : List (List ℕ)). AreBatches counts (so.moves ++ read) l) (sym (take_next payloads at payload there))
      (batches_more counts so.moves read (take at payloads) payload so.batches fit spelled);
  books_are = made ∙ ap (λ (b : ServerSeen). replay b read) so.books_are ∙ sym (replay_more begun so.moves read);
  count_is = omega (arith, counted, so.count_is, length-append so.moves read);
}

-- ---- where a payload stands

end_of : (before payloads : List (List ℕ)) (at : ℕ) (payload : List ℕ) (whole end : ℕ) → Fits payload → whole ≡ length (frames (before ++ take at payloads)) → end ≡ whole + (20 + length payload)
    → end ≡ length (frames ((before ++ take at payloads) ++ payload ∷ []))
end_of before payloads at payload whole end fits so ends =
    omega (arith, so, ends, size_more (before ++ take at payloads) payload fits)

-- with one payload more
pub end_more : (before payloads : List (List ℕ)) (at : ℕ) (payload : List ℕ) (whole end : ℕ) → slice_get payloads at ≡ Some payload → Fits payload → whole ≡ length (frames (before ++ take at payloads)) → end ≡ whole + (20 + length payload)
    → end ≡ length (frames (before ++ take (at + 1) payloads))
end_more before payloads at payload whole end is fits so ends =
    end_of before payloads at payload whole end fits so ends
    ∙ ap (λ (l : List (List ℕ)). length (frames l)) (append_assoc before (take at payloads) (payload ∷ [])
    ∙ ap (λ (p : List ℕ). before ++ (take at payloads ++ p ∷ [])) (sym (get_or_from_slice_get payloads at payload payload is))
    ∙ ap (λ (l : List (List ℕ)). before ++ l) (sym (take_more payloads at payload (slice_get_within payloads at payload is))))

pub is_at : (before payloads : List (List ℕ)) (at : ℕ) (payload : List ℕ) (whole end : ℕ) → slice_get payloads at ≡ Some payload → Fits payload → whole ≡ length (frames (before ++ take at payloads)) → end ≡ whole + (20 + length payload)
    → IsAt (before ++ payloads) (before ++ take at payloads) payload end
is_at before payloads at payload whole end is fits so ends = record {
  rest = drop (at + 1) payloads;
  there = ap (λ (l : List (List ℕ)). before ++ l) (sym (take-append-drop at payloads) ∙ ap (λ (l : List (List ℕ)). take at payloads ++ l) (at_drop payloads at payload is))
      ∙ sym (append_assoc before (take at payloads) (payload ∷ drop (at + 1) payloads));
  end_is = end_of before payloads at payload whole end fits so ends;
}

-- ---- a whole generation

pub found_in : (config : Configuration) (payloads batches : List (List ℕ)) (first second : List ℕ) (found : Header) (begun_books books : ServerSeen) (count : ℕ)
    → payloads ≡ first ∷ second ∷ batches
    → ((header : Header) (table : List ℕ) → header_field.Fits header → first ≡ front_octets header table → found ≡ header)
    → ((begun : ServerSeen) → IsServerOf config begun → IsSnapshot (counts_of config) begun second → begun_books ≡ begun)
    → ((moves : List Move) → AreBatches (counts_of config) moves batches → books ≡ replay begun_books moves)
    → ((moves : List Move) → AreBatches (counts_of config) moves batches → count ≡ length moves)
    → IsFoundIn config payloads found books count
found_in config payloads batches first second found begun_books books count parts head snapshot replayed counted header begun moves is of =
    let same : first ∷ second ∷ batches ≡ front_octets header (octets_of config) ∷ of.snapshot ∷ of.batches = sym parts ∙ of.payloads_are in
    let one : first ≡ front_octets header (octets_of config) = cc same in
    let two : second ≡ of.snapshot = cc same in
    let rest : batches ≡ of.batches = cc same in
    let have : AreBatches (counts_of config) moves batches = subst (λ (l : List (List ℕ)). AreBatches (counts_of config) moves l) (sym rest) of.batches_are in
    record {
      header_is = head header (octets_of config) of.header_fits one;
      books_are = replayed moves have ∙ ap (λ (b : ServerSeen). replay b moves) (snapshot begun is (subst (λ (o : List ℕ). IsSnapshot (counts_of config) begun o) (sym two) of.snapshot_is));
      count_is = counted moves have;
    }

pub is_there : (config : Configuration) (payloads batches : List (List ℕ)) (first second : List ℕ) (header : Header) (begun books : ServerSeen) (count : ℕ)
    → payloads ≡ first ∷ second ∷ batches → first ≡ front_octets header (octets_of config) → header_field.Fits header → IsServerOf config begun → IsSnapshot (counts_of config) begun second
    → AreReplayed (counts_of config) batches begun books count → IsThere config payloads header books count
is_there config payloads batches first second header begun books count parts head fits is snapshot so = record {
  begun = begun;
  begun_is = is;
  moves = so.moves;
  generation = record {
    header_fits = fits;
    snapshot = second;
    snapshot_is = snapshot;
    batches = batches;
    batches_are = so.batches;
    payloads_are = parts ∙ ap (λ (o : List ℕ). o ∷ second ∷ batches) head;
  };
  books_are = so.books_are;
  count_is = so.count_is;
}

pub parts_are : (payloads : List (List ℕ)) (header snapshot : List ℕ) (parts : Parts) → payloads ≡ header ∷ snapshot ∷ map (λ (payload : Bor (List ℕ)). payload.now) parts.batches.now
    → parts.front.payload.now ≡ header → parts.snapshot.payload.now ≡ snapshot → Fits parts.front.payload.now → Fits parts.snapshot.payload.now
    → parts.front.end ≡ 0 + (20 + length parts.front.payload.now) → parts.snapshot.end ≡ parts.front.end + (20 + length parts.snapshot.payload.now) → AreParts payloads parts
parts_are payloads header snapshot parts is one two short_header short_snapshot front whole =
    let none : length (frames []) ≡ 0 = refl in
    let batches : List (List ℕ) = map (λ (payload : Bor (List ℕ)). payload.now) parts.batches.now in
    record {
      are = is ∙ ap (λ (o : List ℕ). o ∷ snapshot ∷ batches) (sym one) ∙ ap (λ (o : List ℕ). parts.front.payload.now ∷ o ∷ batches) (sym two);
      front_end = omega (arith, none, front, size_more [] parts.front.payload.now short_header);
      snapshot_end = front_size parts.front.payload.now parts.snapshot.payload.now parts.front.end parts.snapshot.end short_header short_snapshot front whole;
    }

-- ---- why a generation was not read

module _ (counts : Counts) (table header snapshot : List ℕ) (payloads : List (List ℕ)) (at : ℕ) (payload : List ℕ) (whole end : ℕ) where
  pub moves_why : (fault : StoreFault) → slice_get payloads at ≡ Some payload → Fits payload → whole ≡ length (frames (header ∷ snapshot ∷ take at payloads)) → end ≡ whole + (20 + length payload)
      → IsWhyNoMoves counts end payload fault → IsWhyUnread counts table (header ∷ snapshot ∷ payloads) fault
  moves_why (faults.Malformed malformed) is fits so ends why = record {
    before = header ∷ snapshot ∷ take at payloads;
    payload = payload;
    end = end;
    at = is_at (header ∷ snapshot ∷ []) payloads at payload whole end is fits so ends;
    spells_nothing = why;
  }
  moves_why faults.NoMemory is fits so ends why = tt
  moves_why _ is fits so ends why = absurd why

  pub foreign_why : (offset : ℕ) (fault : StoreFault) → slice_get payloads at ≡ Some payload → Fits payload → whole ≡ length (frames (header ∷ snapshot ∷ take at payloads)) → end ≡ whole + (20 + length payload)
      → offset ≡ end - length payload → fault ≡ faults.Foreign offset → IsWhyUnread counts table (header ∷ snapshot ∷ payloads) fault
  foreign_why offset fault is fits so ends begins same =
      let foreign : IsBatchAt (header ∷ snapshot ∷ payloads) offset = record {
        before = header ∷ snapshot ∷ take at payloads;
        later = omega arith;
        begins = record { payload = payload; end = end; at = is_at (header ∷ snapshot ∷ []) payloads at payload whole end is fits so ends; offset_is = begins };
      } in
      subst (IsWhyUnread counts table (header ∷ snapshot ∷ payloads)) (sym same) foreign

pub parts_why : (counts : Counts) (table : List ℕ) (payloads : List (List ℕ)) (fault : StoreFault) → IsWhyNoParts payloads fault → IsWhyUnread counts table payloads fault
parts_why counts table payloads faults.Unbegun why = why
parts_why counts table payloads faults.TooLong why = tt
parts_why counts table payloads _ why = absurd why

module _ (counts : Counts) (table : List ℕ) (payloads : List (List ℕ)) (parts : Parts) (are : AreParts payloads parts) where
  pub header_why : (malformed : Malformed) → IsFrontFault header_at parts.front.end parts.front.payload.now malformed → IsMalformed counts payloads malformed
  header_why malformed why = record {
    before = [];
    payload = parts.front.payload.now;
    end = parts.front.end;
    at = record { rest = parts.snapshot.payload.now ∷ map (λ (payload : Bor (List ℕ)). payload.now) parts.batches.now; there = are.are; end_is = are.front_end };
    spells_nothing = why;
  }

  -- the table of another configuration
  pub table_why : (header : Header) (found : List ℕ) (end : ℕ) (fault : StoreFault) → parts.front.payload.now ≡ front_octets header found → end ≡ parts.front.end → IsWhyOther table end found fault
      → IsWhyUnread counts table payloads fault
  table_why header found end (faults.OtherTable offset) spelled ends why = record {
    header = header;
    found = found;
    rest = parts.snapshot.payload.now ∷ map (λ (payload : Bor (List ℕ)). payload.now) parts.batches.now;
    there = are.are ∙ ap (λ (o : List ℕ). o ∷ parts.snapshot.payload.now ∷ map (λ (payload : Bor (List ℕ)). payload.now) parts.batches.now) spelled;
    other = why.0;
    offset_is = why.1 ∙ ap (λ (n : ℕ). n - length found) (ends ∙ are.front_end ∙ ap (λ (o : List ℕ). length (frames (o ∷ []))) spelled);
  }
  table_why header found end faults.NoMemory spelled ends why = tt
  table_why header found end _ spelled ends why = absurd why

  snapshot_at : IsAt payloads (parts.front.payload.now ∷ []) parts.snapshot.payload.now parts.snapshot.end
  snapshot_at = record { rest = map (λ (payload : Bor (List ℕ)). payload.now) parts.batches.now; there = are.are; end_is = are.snapshot_end }

  pub books_why : (fault : StoreFault) → IsWhyNoBooks counts.clients parts.snapshot.end parts.snapshot.payload.now fault → IsWhyUnread counts table payloads fault
  books_why (faults.Malformed malformed) why = record {
    before = parts.front.payload.now ∷ [];
    payload = parts.snapshot.payload.now;
    end = parts.snapshot.end;
    at = snapshot_at;
    spells_nothing = why;
  }
  books_why (faults.Misfit offset fault) why =
      (parts.front.payload.now, record { payload = parts.snapshot.payload.now; end = parts.snapshot.end; at = snapshot_at; offset_is = why })
  books_why faults.NoMemory why = tt
  books_why _ why = absurd why
