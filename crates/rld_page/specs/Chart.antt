-- The last hour, as two charts in SVG: logins and rejects of each minute, and the places held at its end. Both are
-- 60 minutes wide, a minute 10 units, and 1,000 units high.
use Rattle.std.specs.Prelude.{ℕ, ◌+◌, ◌-◌, ◌*◌, ◌==◌, max, nat_le, List, [], ◌∷◌, ◌++◌, codes, length, map, Option, None, Some, if◌then◌else◌}
use Rattle.std.specs.Fmt.{decimal}
use Rattle.rld_look.specs.History.{last_minutes, last_of}
use Rattle.rld_look.specs.Totals.{plus}
use Rattle.rld_look.specs.declared.look.Minute.{Minute}
use Rattle.rld_values.specs.Dates.{clock}
use Rattle.rld_page.specs.Figures.{grouped, share_of}

-- how many Access-Requests were answered in a minute
abbrev pub answered_in : Minute → ℕ
answered_in minute = plus (plus minute.accepts minute.limit_rejects) minute.rejects

abbrev pub held_at_end : Minute → ℕ
held_at_end minute = minute.held

-- the greatest of some numbers
abbrev pub greatest : List ℕ → ℕ
greatest [] = 0
greatest (number ∷ numbers) = max number (greatest numbers)

-- where a minute begins that is the first of `number`: the last one ends at the right
abbrev pub left_of : (number : ℕ) → ℕ
left_of number = 600 - number * 10

-- ---- what both charts have

-- the lines behind a chart: at its foot, in the middle and at the most
abbrev pub chart_rules : List ℕ
chart_rules = codes "<path class=\"rule\" d=\"M0 0H600M0 500H600M0 1000H600\"/>\n"

-- when a chart begins and ends, and what its height is
unfoldable pub axis_words : (most : ℕ) → Minute → List ℕ
axis_words most minute =
    clock (minute.start - 3540) ++ (codes "</span><span>most: " ++ (grouped most
    ++ (codes "</span><span>" ++ (clock (plus minute.start 60) ++ codes " UTC"))))

abbrev pub axis_if_any : (most : ℕ) → Option Minute → List ℕ
axis_if_any most None = codes "The first minute is not over yet."
axis_if_any most (Some minute) = axis_words most minute

unfoldable pub axis_of : (most : ℕ) → List Minute → List ℕ
axis_of most minutes =
    codes "<p class=\"axis\"><span>" ++ (axis_if_any most (last_of minutes) ++ codes "</span></p></section>\n")

-- where a minute is touched to read its numbers: over the whole height
unfoldable pub touch_at : (left : ℕ) → List ℕ
touch_at left = codes "<rect class=\"touch\" x=\"" ++ (decimal left ++ codes "\" y=\"0\" width=\"10\" height=\"1000\"/>")

-- ---- logins and rejects

unfoldable pub minute_words : Minute → List ℕ
minute_words minute =
    clock minute.start ++ (codes " UTC: " ++ (decimal minute.accepts
    ++ (codes " accepted, " ++ (decimal minute.limit_rejects
    ++ (codes " without a free place, " ++ (decimal minute.rejects ++ codes " rejected otherwise"))))))

-- a piece of a bar, from one height to another
unfoldable pub piece_text : (front : List ℕ) → (left foot top : ℕ) → List ℕ
piece_text front left foot top =
    front ++ (decimal (left + 1) ++ (codes "\" y=\"" ++ (decimal (1000 - top)
    ++ (codes "\" width=\"8\" height=\"" ++ (decimal (top - foot) ++ codes "\"/>")))))

-- none where they are the same
abbrev pub piece_if_any : (front : List ℕ) → (left foot top : ℕ) → List ℕ
piece_if_any front left foot top = if nat_le top foot then [] else piece_text front left foot top

-- from the foot to `login`, from there to `limit`, and from there to `reject`
unfoldable pub pieces_text : (left login limit reject : ℕ) → List ℕ
pieces_text left login limit reject =
    piece_if_any (codes "<rect class=\"login\" x=\"") left 0 login
    ++ (piece_if_any (codes "<rect class=\"limit\" x=\"") left login limit
    ++ piece_if_any (codes "<rect class=\"reject\" x=\"") left limit reject)

-- accepts, above them rejects for want of a place, above them all others
abbrev pub stack_of : (left most : ℕ) → Minute → List ℕ
stack_of left most minute =
    pieces_text left (share_of minute.accepts most) (share_of (plus minute.accepts minute.limit_rejects) most)
    (share_of (answered_in minute) most)

unfoldable pub bar_of : (left most : ℕ) → Minute → List ℕ
bar_of left most minute =
    codes "<g><title>" ++ (minute_words minute
    ++ (codes "</title>" ++ (stack_of left most minute ++ (touch_at left ++ codes "</g>\n"))))

abbrev pub bars_of : (most : ℕ) → List Minute → List ℕ
bars_of most [] = []
bars_of most (minute ∷ minutes) = bar_of (left_of (length (minute ∷ minutes))) most minute ++ bars_of most minutes

unfoldable pub logins_drawing : (most : ℕ) → List Minute → List ℕ
logins_drawing most minutes =
    codes "<svg viewBox=\"0 0 600 1000\" preserveAspectRatio=\"none\" role=\"img\" aria-labelledby=\"lt ld\">"
    ++ (codes "<title id=\"lt\">Logins and rejects a minute, over the last hour</title>"
    ++ (codes "<desc id=\"ld\">The most in a minute: " ++ (decimal most
    ++ (codes "</desc>\n" ++ (chart_rules ++ (bars_of most minutes ++ codes "</svg>"))))))

unfoldable pub logins_with : (most : ℕ) → List Minute → List ℕ
logins_with most minutes =
    codes "<section class=\"half\"><div class=\"top\"><h2>Logins and rejects a minute</h2><p class=\"key\">"
    ++ (codes "<span style=\"--c:var(--login)\">accepted</span>"
    ++ (codes "<span style=\"--c:var(--limit)\">no free place</span>"
    ++ (codes "<span style=\"--c:var(--reject)\">rejected otherwise</span></p></div>\n"
    ++ (logins_drawing most minutes ++ axis_of most minutes))))

abbrev pub logins_chart : List Minute → List ℕ
logins_chart minutes = logins_with (greatest (map answered_in minutes)) minutes

-- ---- places held

-- the points of the curve: each in the middle of its minute
unfoldable pub point_of : (left most : ℕ) → Minute → List ℕ
point_of left most minute =
    decimal (left + 5) ++ (codes " " ++ (decimal (1000 - share_of minute.held most) ++ codes " "))

abbrev pub points_of : (most : ℕ) → List Minute → List ℕ
points_of most [] = []
points_of most (minute ∷ minutes) = point_of (left_of (length (minute ∷ minutes))) most minute ++ points_of most minutes

-- the outline of what lies below the curve
unfoldable pub area_of : (most : ℕ) → List Minute → List ℕ
area_of most minutes =
    codes "M" ++ (decimal (left_of (length minutes) + 5)
    ++ (codes " 1000L" ++ (points_of most minutes ++ codes "V1000Z")))

unfoldable pub curve_of : (most : ℕ) → List Minute → List ℕ
curve_of most minutes =
    codes "<path class=\"area\" d=\"" ++ (area_of most minutes
    ++ (codes "\"/><path class=\"curve\" d=\"M" ++ (points_of most minutes ++ codes "\"/>\n")))

abbrev pub curve_if_any : (most : ℕ) → List Minute → List ℕ
curve_if_any most minutes = if length minutes == 0 then [] else curve_of most minutes

unfoldable pub held_at : (left : ℕ) → Minute → List ℕ
held_at left minute =
    codes "<g><title>" ++ (clock (plus minute.start 60)
    ++ (codes " UTC: " ++ (decimal minute.held ++ (codes " held</title>" ++ (touch_at left ++ codes "</g>\n")))))

abbrev pub all_held_at : List Minute → List ℕ
all_held_at [] = []
all_held_at (minute ∷ minutes) = held_at (left_of (length (minute ∷ minutes))) minute ++ all_held_at minutes

unfoldable pub held_drawing : (most : ℕ) → List Minute → List ℕ
held_drawing most minutes =
    codes "<svg viewBox=\"0 0 600 1000\" preserveAspectRatio=\"none\" role=\"img\" aria-labelledby=\"ht hd\">"
    ++ (codes "<title id=\"ht\">Places held over the last hour</title>"
    ++ (codes "<desc id=\"hd\">The most at the end of a minute: " ++ (decimal most
    ++ (codes "</desc>\n" ++ (chart_rules
    ++ (curve_if_any most minutes ++ (all_held_at minutes ++ codes "</svg>")))))))

unfoldable pub held_with : (most : ℕ) → List Minute → List ℕ
held_with most minutes =
    codes "<section class=\"half\"><div class=\"top\"><h2>Places held</h2>"
    ++ (codes "<p class=\"key\"><span style=\"--c:var(--held)\">at the end of each minute</span></p></div>\n"
    ++ (held_drawing most minutes ++ axis_of most minutes))

abbrev pub held_chart : List Minute → List ℕ
held_chart minutes = held_with (greatest (map held_at_end minutes)) minutes

-- both, of the minutes that they have room for
abbrev pub charts_of : List Minute → List ℕ
charts_of minutes = logins_chart (last_minutes minutes) ++ held_chart (last_minutes minutes)
