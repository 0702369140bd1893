-- An input that the job on an operated plant refuses has no policy.
use Rattle.std.proofs.Common.{ℕ, ◌≡◌, ◌∙◌, List, [], ◌∷◌, ◌++◌, Bool, true, false, Option, Some, None, Ok, Err}
use Rattle.std.proofs.Common.{ap, append-nil, append_assoc, cond, map, refl, subst, sym, if◌then◌else◌}
use Rattle.std.specs.Prelude.{◌==◌, IsTrue, filter}
use Rattle.std.specs.List.{AllByRecursion, flat_map}
use Rattle.std.specs.Result.{result_ok}
use Rattle.std.proofs.lemmas.List.{map-append}
use Rattle.std.proofs.lemmas.List.Elements.{filter-append}
use Rattle.mtp_json.specs.ReadResult.{ReadResult}
use Rattle.mtp_json.specs.declared.fault.JsonFault.{JsonFault}
use Rattle.pol_io.specs.Known.{Between}
use Rattle.pol_io.specs.Pieces.{is_whole, onto_first, pieces}
use Rattle.pol_io.proofs.Pieces.{pieces_append, pieces_piece}
use Rattle.pol_jobs.specs.Ends.{IsRefused, refused_line, refused_input, RefusesInput, RefusesLine}
use Rattle.pol_jobs.specs.LineWork.{AcceptsLines, Line, after_all, line_met}
use Rattle.pol_jobs.proofs.Accepting.{not_accepted}
use Rattle.pol_ledger.specs.Work.{BegunLedger}
use Rattle.pol_operate.specs.Kept.{first_known, known_behind, operated}
use Rattle.pol_operate.specs.Work.{Known, RefusesBy, RefusesEndBy, operate_work, policy_said}
use Rattle.pol_replay.specs.Meanings.{is_some_line}
use Rattle.pol_rights.specs.Rules.{PlainPlantPolicy}
use Rattle.pol_cli.specs.Operating.{HasNoPolicy, plant_policy_among}

-- ---- the first pieces of a text are those of their bytes

-- a first piece that others follow is a whole line, and they are those of the rest
record IsFirst (text first : List ℕ) (others : List (List ℕ)) : Type 0 where
  rest : List ℕ
  whole : IsTrue (is_whole first)
  others_are : pieces rest ≡ others

-- a text without a byte has no piece
no_piece : pieces [] ≡ [] ∷ [] → ⊥
no_piece is = cc

-- so a piece isn't empty
some_piece : (text : List ℕ) (others : List (List ℕ)) → pieces text ≡ [] ∷ others → ⊥
some_piece text others is = no_piece (pieces_piece text [] others is)

-- a byte in front of a whole line that isn't empty
whole_more : (byte : ℕ) (line : List ℕ) → (line ≡ [] → ⊥) → IsTrue (is_whole line) → IsTrue (is_whole (byte ∷ line))
whole_more byte [] some whole = absurd (some refl)
whole_more byte (first ∷ others) some whole = whole

-- where others follow
is_first : (text first second : List ℕ) (others : List (List ℕ)) → pieces text ≡ first ∷ second ∷ others →
    IsFirst text first (second ∷ others)
is_first [] first second others is = absurd cc
is_first (byte ∷ text) first second others is =
    by_feed (byte == 10) refl (pieces text) refl (λ piece. is_first text piece second others) is
  where
    by_feed : (feed : Bool) → (byte == 10) ≡ feed → (found : List (List ℕ)) → pieces text ≡ found →
        ((piece : List ℕ) → pieces text ≡ piece ∷ second ∷ others → IsFirst text piece (second ∷ others)) →
        (if feed then (byte ∷ []) ∷ found else onto_first byte found) ≡ first ∷ second ∷ others →
        IsFirst (byte ∷ text) first (second ∷ others)
    by_feed true feed found found_is rest same =
        let front : byte ∷ [] ≡ first = cc in
        let behind : found ≡ second ∷ others = cc in
        record {
          rest = text;
          whole = subst (λ (line : List ℕ). IsTrue (is_whole line)) front feed;
          others_are = found_is ∙ behind;
        }
    by_feed false feed [] found_is rest same = absurd cc
    by_feed false feed (piece ∷ found) found_is rest same =
        let front : byte ∷ piece ≡ first = cc in
        let behind : found ≡ second ∷ others = cc in
        let inner = rest piece (found_is ∙ ap (λ (others : List (List ℕ)). piece ∷ others) behind) in
        record {
          rest = inner.rest;
          whole = subst (λ (line : List ℕ). IsTrue (is_whole line)) front (whole_more byte piece
              (λ empty. some_piece text found (found_is ∙ ap (λ (one : List ℕ). one ∷ found) empty)) inner.whole);
          others_are = inner.others_are;
        }

-- the pieces before another one
front_pieces : (text : List ℕ) (front : List (List ℕ)) (piece : List ℕ) (later : List (List ℕ)) →
    pieces text ≡ front ++ piece ∷ later → pieces (flat_map (λ part. part) front) ≡ front
front_pieces text [] piece later is = refl
front_pieces text (first ∷ []) piece later is =
    ap pieces (append-nil first) ∙ pieces_piece text first (piece ∷ later) is
front_pieces text (first ∷ second ∷ front) piece later is =
    let parts = is_first text first second (front ++ piece ∷ later) is in
    pieces_append first (flat_map (λ part. part) (second ∷ front)) parts.whole
    ∙ ap (λ (found : List (List ℕ)). found ++ pieces (flat_map (λ part. part) (second ∷ front)))
    (pieces_piece text first (second ∷ front ++ piece ∷ later) is)
    ∙ ap (λ (found : List (List ℕ)). first ∷ found)
    (front_pieces parts.rest (second ∷ front) piece later parts.others_are)

-- ---- blank lines

-- the lines of these pieces are blank
abbrev AreBlank : List (List ℕ) → Type 0
AreBlank parts = AllByRecursion (λ (piece : List ℕ). is_some_line (line_met piece) ≡ false) parts

-- one more
blank_more : (front : List (List ℕ)) (piece : List ℕ) → AreBlank front → is_some_line (line_met piece) ≡ false →
    AreBlank (front ++ piece ∷ [])
blank_more [] piece blank is = (is, tt)
blank_more (first ∷ front) piece blank is = (blank.0, blank_more front piece blank.1 is)

-- none of them is a line that isn't blank
none_some : (parts : List (List ℕ)) → AreBlank parts → filter is_some_line (map line_met parts) ≡ []
none_some [] blank = refl
none_some (piece ∷ parts) blank = rw blank.0 (none_some parts blank.1)

module _ (start : Option BegunLedger) where
  -- behind them nothing more is known
  blank_after : (parts : List (List ℕ)) → AreBlank parts → known_behind start parts ≡ first_known start
  blank_after [] blank = refl
  blank_after (piece ∷ parts) blank = rw blank.0 (blank_after parts blank.1)

  -- a policy that was said stays
  policy_stays : (policy : PlainPlantPolicy) (ledger : Option BegunLedger) (parts : List (List ℕ)) →
      (after_all operate_work (record { policy = Some policy; ledger = ledger }) parts).policy ≡ Some policy
  policy_stays policy ledger [] = refl
  policy_stays policy ledger (piece ∷ parts) =
      policy_stays policy (operate_work.after (record { policy = Some policy; ledger = ledger })
      (line_met piece)).ledger parts

  -- where lines are accepted and say no policy, they are blank
  all_blank : (bytes : List ℕ) (front parts : List (List ℕ)) → AcceptsLines (operated start) bytes →
      pieces bytes ≡ front ++ parts → AreBlank front → (known_behind start parts).policy ≡ None → AreBlank parts
  all_blank bytes front [] accepted are blank none = tt
  all_blank bytes front (piece ∷ parts) accepted are blank none =
      by_line (is_some_line (line_met piece)) refl (policy_said (line_met piece)) refl
      (λ front. all_blank bytes front parts accepted) none
    where
      -- what is known where this policy is, or none
      known_of : Option PlainPlantPolicy → Known
      known_of policy = record { policy = policy; ledger = start }

      -- what is known behind the line, by whether it is some
      known_if : Bool → Known
      known_if some = known_of (if some then result_ok (policy_said (line_met piece)) else None)

      -- the policy behind the lines that follow
      policy_behind : Known → Option PlainPlantPolicy
      policy_behind known = (after_all operate_work known parts).policy

      by_line : (some : Bool) → is_some_line (line_met piece) ≡ some → (said : ReadResult PlainPlantPolicy) →
          policy_said (line_met piece) ≡ said →
          ((front : List (List ℕ)) → pieces bytes ≡ front ++ parts → AreBlank front →
          (known_behind start parts).policy ≡ None → AreBlank parts) →
          (known_behind start (piece ∷ parts)).policy ≡ None → AreBlank (piece ∷ parts)
      by_line false is said said_is rest none =
          let same : operate_work.after (first_known start) (line_met piece) ≡ first_known start = ap known_if is in (
            is,
            rest (front ++ piece ∷ []) (are ∙ sym (append_assoc front (piece ∷ []) parts))
                (blank_more front piece blank is) (sym (ap policy_behind same) ∙ none),
          )
      by_line true is (Ok policy) said_is rest none =
          let known : operate_work.after (first_known start) (line_met piece) ≡ known_of (Some policy) =
          ap known_if is ∙ ap (λ (said : ReadResult PlainPlantPolicy). known_of (result_ok said)) said_is in
          let differ : None ≡ Some policy =
          sym none ∙ ap policy_behind known ∙ policy_stays policy start parts in absurd cc
      by_line true is (Err fault) said_is rest none =
          let done = flat_map (λ (part : List ℕ). part) front in
          let done_is = front_pieces bytes front piece parts are in
          let unknown : known_behind start (pieces done) ≡ first_known start =
          ap (known_behind start) done_is ∙ blank_after front blank in
          absurd (not_accepted (operated start) bytes done piece parts fault
          (are ∙ ap (λ (front : List (List ℕ)). front ++ piece ∷ parts) (sym done_is))
          (subst (λ (known : Known). RefusesBy known.policy (line_met piece) fault) (sym unknown) (is, said_is))
          accepted)

-- ---- refusals

-- no policy is known where a line is refused, and it should say it
refused_by : (policy : Option PlainPlantPolicy) (line : Line) (fault : JsonFault) → RefusesBy policy line fault →
    (policy ≡ None) × IsTrue (is_some_line line) × (policy_said line ≡ Err fault)
refused_by None line fault refuses = (refl, refuses.0, refuses.1)
refused_by (Some policy) line fault refuses = absurd refuses

-- nor where the input is, at its end
refused_end : (policy : Option PlainPlantPolicy) (fault : JsonFault) → RefusesEndBy policy fault →
    (policy ≡ None) × (plant_policy_among [] ≡ Err fault)
refused_end None fault refuses = (refl, ap (λ (fault : JsonFault). Err fault) (sym refuses))
refused_end (Some policy) fault refuses = absurd refuses

module _ (start : Option BegunLedger) (fault : JsonFault) (held held' : Option (List ℕ)) (bytes left : List ℕ) where
  -- with a line
  by_line : RefusesLine (operated start) fault held held' bytes left → HasNoPolicy fault bytes
  by_line line =
      let refuses = refused_by (known_behind start (pieces line.done)).policy (line_met line.piece) fault
      line.refuses in
      let blank = all_blank start line.done [] (pieces line.done) line.accepted refl tt refuses.0 in
      let behind = pieces (line.waiting ++ left) in
      ap (λ (parts : List (List ℕ)). plant_policy_among (filter is_some_line (map line_met parts))) line.is_line
      ∙ ap (λ (lines : List Line). plant_policy_among (filter is_some_line lines))
      (map-append line_met (pieces line.done) (line.piece ∷ behind))
      ∙ ap plant_policy_among (filter-append is_some_line (map line_met (pieces line.done))
      (map line_met (line.piece ∷ behind)))
      ∙ ap (λ (lines : List Line). plant_policy_among
      (lines ++ filter is_some_line (map line_met (line.piece ∷ behind)))) (none_some (pieces line.done) blank)
      ∙ ap (λ (some : Bool). plant_policy_among (cond some
      (line_met line.piece ∷ filter is_some_line (map line_met behind))
      (filter is_some_line (map line_met behind)))) refuses.1
      ∙ refuses.2

  -- at its end
  by_input : RefusesInput (operated start) fault held held' bytes left → HasNoPolicy fault bytes
  by_input input =
      let refuses = refused_end (known_behind start (pieces bytes)).policy fault input.refuses in
      let blank = all_blank start bytes [] (pieces bytes) input.accepted refl tt refuses.0 in
      ap plant_policy_among (none_some (pieces bytes) blank) ∙ refuses.1

  -- either way
  pub refused_unsaid : IsRefused (operated start) fault held held' bytes left → HasNoPolicy fault bytes
  refused_unsaid (refused_line line) = by_line line
  refused_unsaid (refused_input input) = by_input input

-- where the source tells its bytes
pub between_unsaid : (start : Option BegunLedger) (fault : JsonFault) (held held' begin left : Option (List ℕ)) →
    Between (IsRefused (operated start) fault held held') begin left →
    Between (λ bytes left. HasNoPolicy fault bytes) begin left
between_unsaid start fault held held' None left refused = tt
between_unsaid start fault held held' (Some bytes) None refused = absurd refused
between_unsaid start fault held held' (Some bytes) (Some left) refused =
    refused_unsaid start fault held held' bytes left refused
