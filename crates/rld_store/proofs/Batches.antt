-- Batches of moves, and generations and histories that have them.
use Rattle.std.proofs.Common.{◌≡◌, ℕ, ◌+◌, List, [], ◌∷◌, ◌++◌, length, map, refl, sym, ap, ◌∙◌, arith, append-nil, append_assoc, length-append}
use Rattle.std.specs.List.{AllByRecursion}
use Rattle.std.proofs.lemmas.List.{map-append}
use Rattle.std.proofs.lemmas.List.Concat.{flat_map-append}
use Rattle.rsl_accounts.specs.Configuration.{Configuration}
use Rattle.rsl_shard.specs.declared.moved.Move.{Move}
use Rattle.rld_books.specs.Server.{ServerSeen, replay, server_after}
use Rattle.rld_log.specs.Frames.{Fits, digest, frame, frames}
use Rattle.rld_log.proofs.Callers.{frame_shape, frames_more, parts_of}
use Rattle.rld_spelling.specs.Moves.{moves_field}
use Rattle.rld_spelling.specs.declared.header.Header.{Header}
use Rattle.rld_spelling.specs.declared.moves.Counts.{Counts}
use Rattle.rld_store.specs.Generations.{AreBatches, AreOfHistory, IsGeneration, counts_of, moves_in}

-- ---- lists

pub replay_more : (begun : ServerSeen) (earlier life : List Move) → replay begun (earlier ++ life) ≡ replay (replay begun earlier) life
unfolding replay
replay_more begun [] life = refl
replay_more begun (moved ∷ earlier) life = replay_more (server_after begun moved) earlier life

pub replay_none : (now : ServerSeen) → replay now [] ≡ now
unfolding replay
replay_none now = refl

pub replay_first : (now : ServerSeen) (moved : Move) (rest : List Move) → replay (server_after now moved) rest ≡ replay now (moved ∷ rest)
unfolding replay
replay_first now moved rest = refl

all_more : {A : Type 0} (P : A → Type 0) (xs : List A) (x : A) → AllByRecursion P xs → P x → AllByRecursion P (xs ++ x ∷ [])
all_more P [] x all this = (this, tt)
all_more P (y ∷ ys) x all this = (all.0, all_more P ys x all.1 this)

pub moves_more : (batches : List (List Move)) (batch : List Move) → moves_in (batches ++ batch ∷ []) ≡ moves_in batches ++ batch
moves_more batches batch = flat_map-append (λ (b : List Move). b) batches (batch ∷ []) ∙ ap (λ (l : List Move). moves_in batches ++ l) (append-nil batch)

-- ---- frames

pub frame_size : (payload : List ℕ) → Fits payload → length (frame payload) ≡ 20 + length payload
frame_size payload fits =
    let none : length {A = ℕ} [] ≡ 0 = refl in
    omega (arith, none, (parts_of (frame payload) (digest payload) payload [] (frame_shape payload fits) (sym (append-nil (frame payload)))).size)

pub size_more : (payloads : List (List ℕ)) (payload : List ℕ) → Fits payload → length (frames (payloads ++ payload ∷ [])) ≡ length (frames payloads) + (20 + length payload)
size_more payloads payload fits =
    omega (arith, ap length (frames_more payloads payload), length-append (frames payloads) (frame payload), frame_size payload fits)

-- ---- one batch more

pub batches_more : (counts : Counts) (moves batch : List Move) (payloads : List (List ℕ)) (payload : List ℕ) → AreBatches counts moves payloads → (moves_field counts).Fits batch → payload ≡ (moves_field counts).spell batch
    → AreBatches counts (moves ++ batch) (payloads ++ payload ∷ [])
batches_more counts moves batch payloads payload so fit is = record {
  batches = so.batches ++ batch ∷ [];
  are = ap (λ (l : List Move). l ++ batch) so.are ∙ sym (moves_more so.batches batch);
  fit = all_more (moves_field counts).Fits so.batches batch so.fit fit;
  spelled = ap (λ (l : List (List ℕ)). l ++ payload ∷ []) so.spelled ∙ ap (λ (p : List ℕ). map (moves_field counts).spell so.batches ++ p ∷ []) is
      ∙ sym (map-append (moves_field counts).spell so.batches (batch ∷ []));
}

generation_more : (config : Configuration) (header : Header) (begun : ServerSeen) (moves batch : List Move) (payloads : List (List ℕ)) (payload : List ℕ)
    → IsGeneration config header begun moves payloads → (moves_field (counts_of config)).Fits batch → payload ≡ (moves_field (counts_of config)).spell batch
    → IsGeneration config header begun (moves ++ batch) (payloads ++ payload ∷ [])
generation_more config header begun moves batch payloads payload so fit is = record {
  header_fits = so.header_fits;
  snapshot = so.snapshot;
  snapshot_is = so.snapshot_is;
  batches = so.batches ++ payload ∷ [];
  batches_are = batches_more (counts_of config) moves batch so.batches payload so.batches_are fit is;
  payloads_are = ap (λ (l : List (List ℕ)). l ++ payload ∷ []) so.payloads_are;
}

pub history_more : (config : Configuration) (opening : ServerSeen) (history batch : List Move) (payloads : List (List ℕ)) (payload : List ℕ) → AreOfHistory config opening history payloads
    → (moves_field (counts_of config)).Fits batch → payload ≡ (moves_field (counts_of config)).spell batch → AreOfHistory config opening (history ++ batch) (payloads ++ payload ∷ [])
history_more config opening history batch payloads payload so fit is = record {
  opening_is = so.opening_is;
  header = so.header;
  earlier = so.earlier;
  moves = so.moves ++ batch;
  are = ap (λ (l : List Move). l ++ batch) so.are ∙ append_assoc so.earlier so.moves batch;
  generation = generation_more config so.header (replay opening so.earlier) so.moves batch payloads payload so.generation fit is;
}
