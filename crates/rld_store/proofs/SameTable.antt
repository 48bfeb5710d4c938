-- Two configurations with one table have the same new books, so what stands for a history by one of them
-- stands for it by the other.
use Rattle.std.proofs.Common.{◌≡◌, ℕ, List, ◌∷◌, length, map, sym, ap, subst, ◌∙◌}
use Rattle.std.proofs.lemmas.List.{length-map}
use Rattle.std.proofs.lemmas.Simd.{map-map}
use Rattle.rsl_accounts.specs.Configuration.{Configuration}
use Rattle.rsl_book.specs.RuledBook.{RuledBook}
use Rattle.rsl_session.specs.Book.{new_book}
use Rattle.rsl_shard.specs.declared.moved.Move.{Move}
use Rattle.rld_books.specs.Saved.{IsServerOf}
use Rattle.rld_books.specs.Server.{ServerSeen, new_server, replay}
use Rattle.rld_log.specs.declared.log.Ending.{Ending}
use Rattle.rld_spelling.specs.TableSpelled.{TableSeen, table_octets}
use Rattle.rld_spelling.specs.Tables.{account_row, client_row, table_of}
use Rattle.rld_spelling.specs.declared.table.TableAccount.{TableAccount}
use Rattle.rld_spelling.specs.Moves.{moves_field}
use Rattle.rld_spelling.specs.declared.header.Header.{Header}
use Rattle.rld_spelling.specs.declared.moves.Counts.{Counts}
use Rattle.rld_store.specs.Generations.{AreBatches, IsGeneration, IsSnapshot, counts_of, front_octets, octets_of}
use Rattle.rld_store.specs.Standing.{EndsSo, StandsFor}
use Rattle.rld_store.specs.declared.store.End.{End}

-- ---- new books

abbrev book_of_row : TableAccount → RuledBook
book_of_row row = record { rules = row.rules; book = new_book }

-- ---- of two configurations

same_length : {X Y : Type 0} (f : X → Y) (xs ys : List X) → map f xs ≡ map f ys → length xs ≡ length ys
same_length f xs ys same = sym (length-map xs f) ∙ ap length same ∙ length-map ys f

module _ (one other : Configuration) (same : table_of one ≡ table_of other) where
  accounts_same : map account_row one.accounts ≡ map account_row other.accounts
  accounts_same = ap (λ (table : TableSeen). table.accounts) same

  clients_same : map client_row one.clients ≡ map client_row other.clients
  clients_same = ap (λ (table : TableSeen). table.clients) same

  pub one_new_server : new_server one ≡ new_server other
  one_new_server =
      sym (map-map book_of_row account_row one.accounts) ∙ ap (map book_of_row) accounts_same ∙ map-map book_of_row account_row other.accounts

  one_counts : counts_of one ≡ counts_of other
  one_counts =
      ap (λ (count : ℕ). counted count (length one.clients)) (same_length account_row one.accounts other.accounts accounts_same)
      ∙ ap (λ (count : ℕ). counted (length other.accounts) count) (same_length client_row one.clients other.clients clients_same)
    where
      counted : (accounts clients : ℕ) → Counts
      counted accounts clients = record { accounts = accounts; clients = clients }

  one_octets : octets_of one ≡ octets_of other
  one_octets = ap table_octets same

  pub still_server : (books : ServerSeen) → IsServerOf one books → IsServerOf other books
  still_server books of = of ∙ one_new_server

  still_generation : (header : Header) (begun : ServerSeen) (moves : List Move) (payloads : List (List ℕ)) → IsGeneration one header begun moves payloads → IsGeneration other header begun moves payloads
  still_generation header begun moves payloads so = record {
    header_fits = so.header_fits;
    snapshot = so.snapshot;
    snapshot_is = subst (λ (c : Counts). IsSnapshot c begun so.snapshot) one_counts so.snapshot_is;
    batches = so.batches;
    batches_are = subst (λ (c : Counts). AreBatches c moves so.batches) one_counts so.batches_are;
    payloads_are = so.payloads_are ∙ ap (λ (t : List ℕ). front_octets header t ∷ so.snapshot ∷ so.batches) one_octets;
  }

  pub still_stands : (opening : ServerSeen) (tears : List ℕ → List ℕ → Type 0) (end : End) (seen : List ℕ) (may_leave : Ending → List ℕ → Type 0) (whole : ℕ) (books : ServerSeen) (history unanswered : List Move)
      → StandsFor one opening tears end seen may_leave whole books history unanswered → StandsFor other opening tears end seen may_leave whole books history unanswered
  still_stands opening tears end seen may_leave whole books history unanswered stands = record {
    payloads = stands.payloads;
    are = record {
      opening_is = still_server opening stands.are.opening_is;
      header = stands.are.header;
      earlier = stands.are.earlier;
      moves = stands.are.moves;
      are = stands.are.are;
      generation = still_generation stands.are.header (replay opening stands.are.earlier) stands.are.moves stands.payloads stands.are.generation;
    };
    unanswered_fits = subst (λ (c : Counts). (moves_field c).Fits unanswered) one_counts stands.unanswered_fits;
    size = stands.size;
    ends = subst (λ (c : Counts). EndsSo end tears seen may_leave stands.payloads ((moves_field c).spell unanswered)) one_counts stands.ends;
    replayed = stands.replayed;
  }
