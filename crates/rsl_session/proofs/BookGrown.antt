-- The links of the book of a past with one more event, from those that were held when it came.
use Rattle.std.proofs.Common.{◌≡◌, ℕ, suc, ◌≤◌, List, [], ◌∷◌, ◌++◌, length, map, Bool, true, false, not, ap, ◌∙◌, eqb}
use Rattle.std.specs.Prelude.{Some, filter, find}
use Rattle.std.proofs.lemmas.List.{map-append}
use Rattle.std.proofs.lemmas.Bool.{ne_eqb}
use Rattle.rsl_accounts.specs.declared.rules.Rules.{Rules}
use Rattle.rsl_session.specs.declared.past_event.PastEvent.{PastEvent}
use Rattle.rsl_session.specs.Past.{Past}
use Rattle.rsl_session.specs.Link.{opens}
use Rattle.rsl_session.specs.Binding.{touches}
use Rattle.rsl_session.specs.Held.{held_links, held_before}
use Rattle.rsl_session.specs.Rule.{IsRuled}
use Rattle.rsl_session.specs.Book.{BookLink}
use Rattle.rsl_session.specs.BookLinks.{change_first}
use Rattle.rsl_session.specs.BookOf.{link_view}
use Rattle.rsl_session.proofs.Ending.{left_by, gives_way, held-quiet, held-opened}
use Rattle.rsl_session.proofs.BookLists.{map_same, filter_all, all_filter, changed_by_name}
use Rattle.rsl_session.proofs.BookViews.{view_untouched}
use Rattle.rsl_session.proofs.BookKnown.{is_known, known_in, held_before_known, held_before_rises}

-- the links that an event leaves, as they looked
abbrev pub left_views : Rules → PastEvent → Past → List BookLink
left_views rules entry past = map (link_view past) (filter (λ link. not (gives_way entry past link)) (held_before rules past entry.event))

-- older links that are not touched look as they did
older_views : (rules : Rules) (entry : PastEvent) (past : Past) → IsRuled rules past
    → ((link : ℕ) → link ≤ length past → touches link (suc (length past)) entry.outcome ≡ false)
    → map (link_view (entry ∷ past)) (left_by rules entry past) ≡ left_views rules entry past
unfolding left_by
older_views rules entry past ruled untouched =
    map_same (is_known past) (link_view (entry ∷ past)) (link_view past)
    (λ link known. view_untouched entry past link (known_in past link known) (untouched link (known_in past link known)))
    (filter (λ link. not (gives_way entry past link)) (held_before rules past entry.event))
    (all_filter _ (is_known past) _ (held_before_known rules past entry.event ruled))

pub views_quiet : (rules : Rules) (entry : PastEvent) (past : Past) → IsRuled rules past
    → opens entry.outcome ≡ false
    → ((link : ℕ) → link ≤ length past → touches link (suc (length past)) entry.outcome ≡ false)
    → map (link_view (entry ∷ past)) (held_links rules (entry ∷ past)) ≡ left_views rules entry past
views_quiet rules entry past ruled quiet untouched =
    ap (map (link_view (entry ∷ past))) (held-quiet rules entry past quiet) ∙ older_views rules entry past ruled untouched

pub views_opened : (rules : Rules) (entry : PastEvent) (past : Past) → IsRuled rules past
    → opens entry.outcome ≡ true
    → ((link : ℕ) → link ≤ length past → touches link (suc (length past)) entry.outcome ≡ false)
    → map (link_view (entry ∷ past))
    (held_links rules (entry ∷ past)) ≡ left_views rules entry past ++ link_view (entry ∷ past)
    (suc (length past)) ∷ []
views_opened rules entry past ruled new untouched =
    ap (map (link_view (entry ∷ past))) (held-opened rules entry past new)
    ∙ map-append (link_view (entry ∷ past)) (left_by rules entry past) (suc (length past) ∷ [])
    ∙ ap (λ views. views ++ link_view (entry ∷ past) (suc (length past)) ∷ []) (older_views rules entry past ruled untouched)

-- an event that ends no link by its act leaves all that were held when it came
pub all_left : (rules : Rules) (entry : PastEvent) (past : Past)
    → ((link : ℕ) → gives_way entry past link ≡ false)
    → filter (λ link. not (gives_way entry past link))
    (held_before rules past entry.event) ≡ held_before rules past entry.event
all_left rules entry past stays =
    filter_all (λ link. not (gives_way entry past link)) (λ link. ap not (stays link)) (held_before rules past entry.event)

-- one link is changed
pub views_changed : (rules : Rules) (entry : PastEvent) (past : Past) (q : ℕ → Bool) (p : BookLink → Bool)
    (f : BookLink → BookLink) (link : ℕ) → IsRuled rules past
    → opens entry.outcome ≡ false → ((other : ℕ) → gives_way entry past other ≡ false)
    → ((other : ℕ) → touches other (suc (length past)) entry.outcome ≡ eqb other link)
    → ((other : ℕ) → is_known past other ≡ true → p (link_view past other) ≡ q other)
    → find q (held_before rules past entry.event) ≡ Some link
    → link_view (entry ∷ past) link ≡ f (link_view past link)
    → map (link_view (entry ∷ past))
    (held_links rules (entry ∷ past)) ≡ change_first p f (map (link_view past) (held_before rules past entry.event))
unfolding left_by
views_changed rules entry past q p f link ruled quiet stays touched is found changed =
    ap (map (link_view (entry ∷ past))) (held-quiet rules entry past quiet ∙ all_left rules entry past stays)
    ∙ changed_by_name (is_known past) (link_view (entry ∷ past)) (link_view past) q p f link is
    (λ other known differs. view_untouched entry past other (known_in past other known) (touched other ∙ ne_eqb other link differs))
    changed (held_before rules past entry.event) (held_before_rises rules past entry.event) (held_before_known rules past entry.event ruled) found
