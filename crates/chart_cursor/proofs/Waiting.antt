-- The awaited nodes that aren't ready are the same by all marks that stand for a log.
use Rattle.std.specs.Prelude.{ℕ, ◌≡◌, ◌≤◌, ◌<◌, ◌+◌, zero, suc, true, List, [], ◌∷◌, length, filter_map, Option, Some, None, refl}
use Rattle.std.specs.List.{Contains, cons_option, slice_index_or}
use Rattle.std.proofs.Common.{ap, sym, subst, ◌∙◌, inl, inr, arith}
use Rattle.chart_core.specs.Form.{is_tree_formed}
use Rattle.chart_core.specs.Progress.{Marks, Stands}
use Rattle.chart_core.specs.Roles.{PlainChart}
use Rattle.chart_core.specs.Runs.{IsAwaited, course_of, word}
use Rattle.chart_core.specs.Standing.{marks_after}
use Rattle.chart_core.specs.Trees.{Tree, size}
use Rattle.chart_core.specs.Valid.{IsValid}
use Rattle.chart_core.specs.declared.entry.LogEntry.{LogEntry}
use Rattle.chart_core.proofs.Link.{stands_of, stands_partial}
use Rattle.chart_core.proofs.Logs.{chart_sound}
use Rattle.chart_core.proofs.Validity.{form_tree, valid_distinct}
use Rattle.chart_cursor.specs.Listing.{waiting_among, waiting_in, waits_after}
use Rattle.chart_cursor.specs.Laws.{WaitsAreAwaited}
use Rattle.chart_cursor.specs.Next.{node_at, ready_after}
use Rattle.chart_cursor.specs.OpenNodes.{OpenNode, open_nodes}
use Rattle.chart_cursor.specs.Sights.{Sights}
use Rattle.chart_cursor.specs.declared.listing.WaitingNode.{WaitingNode}
use Rattle.chart_cursor.specs.declared.next.CursorNext.{CursorNext}
use Rattle.chart_cursor.specs.declared.next.CursorNext.TheVariants.{Entry, Wait, Whole}
use Rattle.chart_cursor.proofs.Firsts.{Agrees, Rising, after_stands, agrees, spots_rising}
use Rattle.chart_cursor.proofs.Opened.{InSpots, awaited_open, open_awaited}
use Rattle.chart_cursor.proofs.Phases.{phased}

-- the numbers of these rise from a number on
abbrev Rises : ℕ → List OpenNode → Type 0
Rises low [] = Unit {0}
Rises low (spot ∷ others) = (low ≤ spot.number) × Rises (spot.number + 1) others

-- they do where more is known of them
rises : (look : ℕ → Option Tree) (marks : Marks) (low high : ℕ) (each : List OpenNode) → Rising look marks low high each
    → Rises low each
rises look marks low high [] rising = tt
rises look marks low high (spot ∷ others) (from, under, mark, found, can_wait, rest) =
    (from, rises look marks (spot.number + 1) high others rest)

-- a number among them is no lower
no_lower : (low number : ℕ) (each : List OpenNode) → Rises low each → InSpots number each → low ≤ number
no_lower low number [] rising among = absurd among
no_lower low number (spot ∷ others) (from, rest) (inl same) = omega (arith, same)
no_lower low number (spot ∷ others) (from, rest) (inr among) =
    let more = no_lower (spot.number + 1) number others rest among in omega (arith, from, more)

-- one that isn't the first is among the others
among_others : (number : ℕ) (spot : OpenNode) (others : List OpenNode) → spot.number + 1 ≤ number
    → InSpots number (spot ∷ others) → InSpots number others
among_others number spot others above (inl same) = absurd (omega (arith, same, above))
among_others number spot others above (inr among) = among

-- two that rise and have the same numbers begin with the same one
same_first : (low high : ℕ) (spot other : OpenNode) (spots others : List OpenNode) → Rises low (spot ∷ spots)
    → Rises high (other ∷ others) → InSpots spot.number (other ∷ others) → InSpots other.number (spot ∷ spots)
    → spot.number ≡ other.number
same_first low high spot other spots others rising also (inl same) back = same
same_first low high spot other spots others rising also (inr there) (inl same) = sym same
same_first low high spot other spots others rising also (inr there) (inr here) =
    let above = no_lower (other.number + 1) spot.number others also.1 there in
    let below = no_lower (spot.number + 1) other.number spots rising.1 here in
    absurd (omega (arith, above, below))

-- two that rise and have the same numbers are the same, identified by their numbers
same_told : {B : Type 0} (tell : ℕ → Option B) (low high : ℕ) (spots others : List OpenNode) → Rises low spots
    → Rises high others → ((number : ℕ) → InSpots number spots → InSpots number others)
    → ((number : ℕ) → InSpots number others → InSpots number spots)
    → filter_map (λ (spot : OpenNode). tell spot.number) spots
    ≡ filter_map (λ (spot : OpenNode). tell spot.number) others
same_told tell low high [] [] rising also into back = refl
same_told tell low high [] (other ∷ others) rising also into back = absurd (back other.number (inl refl))
same_told tell low high (spot ∷ spots) [] rising also into back = absurd (into spot.number (inl refl))
same_told tell low high (spot ∷ spots) (other ∷ others) rising also into back =
    let same = same_first low high spot other spots others rising also (into spot.number (inl refl))
    (back other.number (inl refl)) in
    ap (λ number. cons_option (tell number) (filter_map (λ (spot : OpenNode). tell spot.number) spots)) same
    ∙ ap (cons_option (tell other.number))
    (same_told tell (spot.number + 1) (other.number + 1) spots others rising.1 also.1
    (λ number among. among_others number other others
    (let above = no_lower (spot.number + 1) number spots rising.1 among in omega (arith, above, same))
    (into number (inr among)))
    (λ number among. among_others number spot spots
    (let above = no_lower (other.number + 1) number others also.1 among in omega (arith, above, same))
    (back number (inr among))))

-- the nodes that aren't ready, identified by their numbers
told_by_number : (seen : Sights) (ready : ℕ → CursorNext) (each : List OpenNode) → Agrees seen ready each
    → waiting_among seen each ≡ filter_map (λ (spot : OpenNode). waiting_in spot.number (ready spot.number)) each
told_by_number seen ready [] agree = refl
told_by_number seen ready (spot ∷ others) (here, some, rest) =
    ap (λ next. cons_option (waiting_in spot.number next) (waiting_among seen others)) here
    ∙ ap (cons_option (waiting_in spot.number (ready spot.number))) (told_by_number seen ready others rest)

-- the same of the open nodes by marks that stand for a log
open_told : (chart : PlainChart) (marks : Marks) (seen : Sights) (log : List LogEntry) → IsValid chart
    → Stands (course_of chart) marks (word log)
    → waiting_among seen (open_nodes chart.root 0 marks)
    ≡ filter_map (λ (spot : OpenNode). waiting_in spot.number (ready_after chart log seen spot.number))
    (open_nodes chart.root 0 marks)
open_told chart marks seen log valid stands =
    told_by_number seen (ready_after chart log seen) (open_nodes chart.root 0 marks)
    (agrees seen chart log marks 0 (0 + size chart.root) (open_nodes chart.root 0 marks)
    (stands_of (course_of chart) marks (word log) (chart_sound chart valid) stands)
    (phased chart.root 0 marks (word log) (valid_distinct chart valid) stands) (spots_rising chart.root 0 marks))

-- by all marks that stand for a log the nodes that aren't ready are those that are worked out along it
pub waits_same : (chart : PlainChart) (marks : Marks) (seen : Sights) (log : List LogEntry) → IsValid chart
    → is_tree_formed chart.root ≡ true → Stands (course_of chart) marks (word log)
    → waiting_among seen (open_nodes chart.root 0 marks) ≡ waits_after chart log seen
waits_same chart marks seen log valid formed stands =
    let after = after_stands chart log valid
    (stands_partial (course_of chart) marks (word log) (chart_sound chart valid) stands) in
    let rising = λ (marks : Marks). rises (node_at chart.root 0) marks 0 (0 + size chart.root)
    (open_nodes chart.root 0 marks) (spots_rising chart.root 0 marks) in
    open_told chart marks seen log valid stands
    ∙ same_told (λ number. waiting_in number (ready_after chart log seen number)) 0 0
    (open_nodes chart.root 0 marks) (open_nodes chart.root 0 (marks_after chart log))
    (rising marks) (rising (marks_after chart log))
    (λ number among. awaited_open chart (marks_after chart log) log number valid after
    (open_awaited chart marks log number valid formed stands among))
    (λ number among. awaited_open chart marks log number valid stands
    (open_awaited chart (marks_after chart log) log number valid formed after among))
    ∙ sym (open_told chart (marks_after chart log) seen log valid after)

-- ---- they are the awaited ones with an obstacle

-- what the number of a node that waits is ready for
waits_for : (number : ℕ) (next : CursorNext) (node : WaitingNode) → waiting_in number next ≡ Some node
    → (number ≡ node.number) × (next ≡ Wait node.why)
waits_for number (Entry entry) node is = absurd cc
waits_for number (Wait why) node is =
    let same : record { number = number; why = why } ≡ node = cc in
    (ap (λ (node : WaitingNode). node.number) same, ap (λ (node : WaitingNode). Wait node.why) same)
waits_for number Whole node is = absurd cc

-- what is told at a place is told of a number
told_of : (tell : ℕ → Option WaitingNode) (spots : List OpenNode) (node : WaitingNode)
    → Contains (filter_map (λ (spot : OpenNode). tell spot.number) spots) node
    → (number : ℕ) × InSpots number spots × (tell number ≡ Some node)
told_of tell [] node (place, within, is) = absurd (omega arith)
told_of tell (spot ∷ spots) node (place, within, is) =
    go (tell spot.number) refl (λ inside. told_of tell spots node inside) place within is
  where
    rest : List WaitingNode
    rest = filter_map (λ (spot : OpenNode). tell spot.number) spots

    go : (told : Option WaitingNode) → tell spot.number ≡ told
        → (Contains rest node → (number : ℕ) × InSpots number spots × (tell number ≡ Some node))
        → (place : ℕ) → place < length (cons_option told rest)
        → slice_index_or (cons_option told rest) place node ≡ node
        → (number : ℕ) × InSpots number (spot ∷ spots) × (tell number ≡ Some node)
    go None from later place within is =
        let found = later (place, within, is) in (found.0, inr found.1, found.2)
    go (Some one) from later zero within is = (spot.number, inl refl, from ∙ ap Some is)
    go (Some one) from later (suc place) within is =
        let found = later (place, omega arith, is) in (found.0, inr found.1, found.2)

-- what is told of a number stands there
told_there : (tell : ℕ → Option WaitingNode) (spots : List OpenNode) (number : ℕ) (node : WaitingNode)
    → InSpots number spots → tell number ≡ Some node
    → Contains (filter_map (λ (spot : OpenNode). tell spot.number) spots) node
told_there tell [] number node among is = absurd among
told_there tell (spot ∷ spots) number node (inl same) is =
    let here : tell spot.number ≡ Some node = ap tell (sym same) ∙ is in
    subst (λ told. Contains (cons_option told (filter_map (λ (spot : OpenNode). tell spot.number) spots)) node)
    (sym here) (0, omega arith, refl)
told_there tell (spot ∷ spots) number node (inr among) is =
    go (tell spot.number) (told_there tell spots number node among is)
  where
    rest : List WaitingNode
    rest = filter_map (λ (spot : OpenNode). tell spot.number) spots

    go : (told : Option WaitingNode) → Contains rest node → Contains (cons_option told rest) node
    go None inside = inside
    go (Some one) (place, within, is) = (suc place, omega arith, is)

-- the law
pub waits_are_awaited : WaitsAreAwaited
waits_are_awaited chart log seen form valid partial =
    let stands = after_stands chart log valid partial in
    let marks = marks_after chart log in
    let formed = form_tree chart form in
    let ready = ready_after chart log seen in
    let tell : ℕ → Option WaitingNode = λ number. waiting_in number (ready number) in
    let same = open_told chart marks seen log valid stands in
    record {
      awaited = λ node inside.
          let found = told_of tell (open_nodes chart.root 0 marks) node
          (subst (λ nodes. Contains nodes node) same inside) in
          let waits = waits_for found.0 (ready found.0) node found.2 in (
            subst (IsAwaited chart log) waits.0
                (open_awaited chart marks log found.0 valid formed stands found.1),
            ap ready (sym waits.0) ∙ waits.1,
          );
      every = λ number why awaits is.
          subst (λ nodes. Contains nodes (record { number = number; why = why })) (sym same)
          (told_there tell (open_nodes chart.root 0 marks) number (record { number = number; why = why })
          (awaited_open chart marks log number valid stands awaits) (ap (waiting_in number) is));
    }
