-- Lines are put into a buffer, and what it holds is written now and then.
use Rattle.std.proofs.Common.{ℕ, ◌≡◌, ◌<◌, List, [], ◌∷◌, ◌++◌, length, Option, refl, sym, ap, subst, ◌∙◌, arith}
use Rattle.std.proofs.Common.{append_assoc, append-nil, length-append}
use Rattle.std.specs.Io.KnownBytes.{Appends}
use Rattle.pol_events.specs.Events.{PlainEvent}
use Rattle.pol_io.proofs.Known.{Appends_none, Appends_trans, Keeps_refl}
use Rattle.pol_jobs.specs.Written.{WritesPart}
use Rattle.pol_record.specs.Texts.{event_text}
use Rattle.pol_replay.specs.BatchLines.{WritesUpTo}
use Rattle.pol_replay.proofs.BatchLines.{up_to_end, up_to_next, up_to_start}
use Rattle.pol_journal.specs.Journals.{HandsOn, event_line}

-- of bytes that wait some were not written
pub cut_waiting : (held held' : Option (List ℕ)) (rest all : List ℕ) → 0 < length rest →
    WritesUpTo held held' rest all → WritesPart held held' all
cut_waiting held held' rest all some so_far = record {
  some = record { written = so_far.written; more = rest; appended = so_far.appended; front = so_far.up_to };
  proper = some;
}

-- of some that were to follow a proper part was written
pub cut_next : (held between held' : Option (List ℕ)) (next rest all : List ℕ) →
    WritesUpTo held between (next ++ rest) all → WritesPart between held' next → WritesPart held held' all
cut_next held between held' next rest all so_far part = record {
  some = record {
    written = so_far.written ++ part.some.written;
    more = part.some.more ++ rest;
    appended = Appends_trans held between held' so_far.written part.some.written so_far.appended part.some.appended;
    front = append_assoc so_far.written part.some.written (part.some.more ++ rest)
        ∙ ap (λ text. so_far.written ++ text) (sym (append_assoc part.some.written part.some.more rest)
        ∙ ap (λ text. text ++ rest) part.some.front)
        ∙ so_far.up_to;
  };
  proper = let more = part.proper in rw (length-append part.some.more rest) (omega arith);
}

-- a line isn't empty
pub some_line : (event : PlainEvent) (rest : List ℕ) → 0 < length (event_line event ++ rest)
some_line event rest =
    let feed : List ℕ = 10 ∷ [] in
    rw (length-append (event_line event) rest, length-append (event_text event) feed) (omega arith)

-- nor are bytes that wait, and it behind them
pub some_behind_waiting : (waiting : List ℕ) (event : PlainEvent) (rest : List ℕ) →
    0 < length (waiting ++ (event_line event ++ rest))
some_behind_waiting waiting event rest =
    let line = some_line event rest in rw (length-append waiting (event_line event ++ rest)) (omega arith)

-- one more line was put behind those that wait
pub waits_longer : (held held' : Option (List ℕ)) (waiting line rest all : List ℕ) →
    WritesUpTo held held' (waiting ++ (line ++ rest)) all → WritesUpTo held held' ((waiting ++ line) ++ rest) all
waits_longer held held' waiting line rest all so_far =
    subst (λ behind. WritesUpTo held held' behind all) (sym (append_assoc waiting line rest)) so_far

-- some of those that waited were handed on
pub handed_on : (held between held' : Option (List ℕ)) (waiting now rest all : List ℕ) →
    WritesUpTo held between (waiting ++ rest) all → HandsOn between held' waiting now →
    WritesUpTo held held' (now ++ rest) all
handed_on held between held' waiting now rest all so_far hands =
    up_to_next held between held' hands.written (now ++ rest) all
    (subst (λ behind. WritesUpTo held between behind all)
    (sym (ap (λ text. text ++ rest) hands.is) ∙ append_assoc hands.written now rest) so_far) hands.appended

-- nothing was handed on
pub none_handed : (held : Option (List ℕ)) (waiting : List ℕ) → HandsOn held held waiting waiting
none_handed held waiting = record { written = []; appended = Appends_none held held (Keeps_refl held); is = refl }

-- all was
pub all_handed : (held held' : Option (List ℕ)) (waiting : List ℕ) → Appends held held' waiting →
    HandsOn held held' waiting []
all_handed held held' waiting appended =
    record { written = waiting; appended = appended; is = append-nil waiting }

-- the last that waited was written
pub last_handed : (held between held' : Option (List ℕ)) (waiting rest all : List ℕ) → rest ≡ [] →
    WritesUpTo held between (waiting ++ rest) all → Appends between held' waiting → Appends held held' all
last_handed held between held' waiting rest all none so_far appended =
    up_to_end held held' all (up_to_next held between held' waiting [] all
    (subst (λ rest. WritesUpTo held between (waiting ++ rest) all) none so_far) appended)

-- a line was not put behind those that wait, and nothing was written
pub unput : (held : Option (List ℕ)) (waiting : List ℕ) (event : PlainEvent) →
    WritesPart held held (waiting ++ event_line event)
unput held waiting event =
    cut_waiting held held (waiting ++ event_line event) (waiting ++ event_line event)
    (subst (λ line. 0 < length (waiting ++ line)) (append-nil (event_line event))
    (some_behind_waiting waiting event [])) (up_to_start held _ _ refl)
