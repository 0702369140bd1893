-- One more line is read and replied to, and where a job may stop.
use Rattle.std.proofs.Common.{ℕ, ◌≡◌, ◌≤◌, ◌+◌, ◌||◌, not, inl, inr, List, [], ◌∷◌, ◌++◌, length, Bool, true, false, refl, sym, ◌∙◌, ap, subst, arith, append_assoc, append-nil, length-append}
use Rattle.std.specs.Prelude.{IsTrue, Option, Some, None, Result, Err, ◌==◌}
use Rattle.std.specs.Io.KnownBytes.{Appends, IsAtEnd}
use Rattle.std.proofs.lemmas.Bool.{or_right}
use Rattle.std.proofs.lemmas.List.{append_cancel_right}
use Rattle.pol_io.specs.Faults.{Stops}
use Rattle.pol_io.specs.Known.{Between, Counts, joined}
use Rattle.pol_io.specs.Pieces.{pieces, line_of, is_whole, has_no_feed, IsDone, IsFirstLine, Passes, PassesMore}
use Rattle.pol_io.specs.LinesState.{LinesState, ahead, needs_no_source}
use Rattle.pol_io.specs.declared.limits.TheConstants.{LONGEST_INPUT}
use Rattle.pol_io.specs.declared.lines.IoFault.{IoFault}
use Rattle.pol_io.specs.declared.lines.IoFault.TheVariants as io_fault
use Rattle.pol_io.proofs.FirstLines.{done_all, done_next, done_whole, pieces_next}
use Rattle.pol_io.proofs.Known.{Appends_trans, Keeps_refl, between_both, between_trans, between_weaker, counts_kept, counts_trans}
use Rattle.pol_io.proofs.Pieces.{pieces_append, pieces_joined, whole_append}
use Rattle.pol_jobs.specs.Ends.{IsRead, IsTooMuch, LeavesPart, stopped_within, stopped_at_end, stopped_closing, Takes, IsRefused, refused_line, refused_input, WritesTaken, WritesTakenAndMore, WritesTakenPart}
use Rattle.pol_jobs.specs.Faults.{IsOfPutting, RefusedFor, of_lines, of_output, of_stop}
use Rattle.pol_jobs.specs.LineWork.{Line, LineWork, Output, Accepts, AcceptsBehind, AcceptsLines, line_met, met, replies, after_all, output_by}
use Rattle.pol_jobs.specs.Moments.{moment, Moment, Moves, IsFresh, IsServed, Leaves, Replied, Replies, Served}
use Rattle.pol_jobs.specs.Settling.{Deeds, PutsBefore, PutsPart}
use Rattle.pol_jobs.specs.Written.{ClosesPart, WritesSome}
use Rattle.pol_jobs.specs.declared.fault.JobFault.{JobFault}
use Rattle.pol_jobs.specs.declared.fault.JobFault.TheVariants as job_fault
use Rattle.pol_jobs.specs.declared.output.PutFault.{PutFault}
use Rattle.pol_jobs.specs.declared.output.PutFault.TheVariants as put_fault
use Rattle.pol_jobs.specs.declared.stop.Stop.{Stop}
use Rattle.pol_jobs.specs.declared.stop.Stop.TheVariants as stop
use Rattle.pol_jobs.proofs.Accepting.{accepted_behind}
use Rattle.pol_jobs.proofs.Written.{all_written, nothing_written, some_behind, some_of_more}

-- ---- bytes that are taken

-- of some bytes and those left the former are taken: whole lines, and then a part of a line
takes_front : (bytes left : List ℕ) → Takes (bytes ++ left) left
takes_front [] left = record { whole = []; part = []; cut = refl; whole_lines = refl; no_feed = refl }
takes_front (byte ∷ bytes) left =
    let rest = takes_front bytes left in
    one_more rest.whole rest.part rest.cut rest.whole_lines rest.no_feed (byte == 10) refl
  where
    one_more : (whole part : List ℕ) → bytes ++ left ≡ whole ++ part ++ left → IsTrue (is_whole whole) →
        IsTrue (has_no_feed part) →
        (feed : Bool) → (byte == 10) ≡ feed → Takes (byte ∷ bytes ++ left) left
    one_more (next ∷ whole) part cut lines no_feed feed is =
        record {
          whole = byte ∷ next ∷ whole;
          part = part;
          cut = ap (λ rest. byte ∷ rest) cut;
          whole_lines = lines;
          no_feed = no_feed;
        }
    one_more [] part cut lines no_feed true is =
        record {
          whole = byte ∷ [];
          part = part;
          cut = ap (λ rest. byte ∷ rest) cut;
          whole_lines = is;
          no_feed = no_feed;
        }
    one_more [] part cut lines no_feed false is =
        record {
          whole = [];
          part = byte ∷ part;
          cut = ap (λ rest. byte ∷ rest) cut;
          whole_lines = refl;
          no_feed = rw is no_feed;
        }

-- where a byte more than an input may have was taken, as many as it may have stand before the last
full_length : (bytes taken left : List ℕ) (last : ℕ) → bytes ≡ taken ++ (last ∷ left) → Counts 0 268435457 bytes left →
    length taken ≡ LONGEST_INPUT
full_length bytes taken left last cut counted = let sum = ap length cut ∙ length-append taken (last ∷ left) in
    omega (arith, sum, counted)

-- ---- moments

-- nothing moved yet
pub moves_none : {State : Type 0} (first : Moment State) → IsFresh first.lines → Moves first first
moves_none first fresh = record {
  counted = counts_kept first.left first.left first.lines.taken (Keeps_refl first.left);
  limit = rw fresh.taken (omega arith);
  spent = λ ended. fresh.waiting;
  at_end = λ ended early. early ended;
  sound = fresh.sound;
}

-- what moved from one moment to another, and on to a third
pub moves_on : {State : Type 0} (first now next : Moment State) → Moves first now → Moves now next → Moves first next
moves_on first now next before moves = record {
  counted =
      counts_trans first.left now.left next.left first.lines.taken now.lines.taken next.lines.taken before.counted
      moves.counted;
  limit = moves.limit;
  spent = moves.spent;
  at_end = λ ended early. moves.at_end ended (λ ended_before. before.at_end ended_before early);
  sound = moves.sound;
}

-- where the end is seen nothing is left
pub left_at_end : {State : Type 0} (first last : Moment State) → IsFresh first.lines → Moves first last →
    IsTrue last.lines.ended → IsAtEnd last.left
left_at_end first last fresh moves ended = moves.at_end ended
    (λ early. absurd (not_both first.lines.ended fresh.unended early))
  where
    not_both : (ended : Bool) → ended ≡ false → IsTrue ended → ⊥
    not_both true unended is = cc
    not_both false unended is = cc

-- and the input was read: all its bytes were counted
read_to_end : {State : Type 0} (first last : Moment State) → IsFresh first.lines → Moves first last →
    IsTrue last.lines.ended → Between IsRead first.left last.left
read_to_end first last fresh moves ended =
    in_limit first.left last.left last.lines.taken (rw fresh.taken at moves.counted)
    (left_at_end first last fresh moves ended) moves.limit
  where
    in_limit : (start left : Option (List ℕ)) (taken : ℕ) → Between (Counts 0 taken) start left → IsAtEnd left →
        taken ≤ LONGEST_INPUT → Between IsRead start left
    in_limit None left taken counted ends limit = tt
    in_limit (Some bytes) None taken counted ends limit = absurd counted
    in_limit (Some bytes) (Some left) taken counted ends limit =
        let none : length left ≡ 0 = rw ends refl in
        record { to_end = ends; fits = omega arith }

-- one byte more was counted than an input may have
much_counted : {State : Type 0} (first now : Moment State) (left : Option (List ℕ)) → IsFresh first.lines →
    Moves first now →
    Stops now.lines.taken (ahead now.lines now.left) now.left left io_fault.TooMuch →
    Between (Counts 0 268435457) first.left left
much_counted first now left fresh moves stops =
    counts_trans first.left now.left left 0 now.lines.taken 268435457 (rw fresh.taken at moves.counted)
    (rw (stops.too_much refl).0 at stops.counted)

-- so the input has more
pub too_much_counted : {State Reason Failure : Type 0} (first now : Moment State) (left : Option (List ℕ))
    (fault : IoFault) →
    IsFresh first.lines → Moves first now →
    Stops now.lines.taken (ahead now.lines now.left) now.left left fault →
    of_lines {Reason = Reason} {Failure = Failure} fault ≡ job_fault.TooMuch →
    IsTooMuch first.left
too_much_counted first now left io_fault.Read fresh moves stops is = cc
too_much_counted first now left io_fault.TooMuch fresh moves stops is = over first.left left
    (much_counted first now left fresh moves stops)
  where
    over : (start left : Option (List ℕ)) → Between (Counts 0 268435457) start left → IsTooMuch start
    over None left counted = tt
    over (Some bytes) None counted = absurd counted
    over (Some bytes) (Some left) counted = omega arith

-- ---- what was written

-- nothing was read or written
pub nothing_leaves : {Reason : Type 0} (output : Output Reason) → (held begin : Option (List ℕ)) →
    Between (LeavesPart output held held) begin begin
nothing_leaves output held None = tt
nothing_leaves output held (Some bytes) = stopped_within (record {
  takes = record { whole = []; part = []; cut = refl; whole_lines = refl; no_feed = refl };
  some = nothing_written held (output.replies []);
})

-- where the output failed a part of it is left
pub output_leaves : {Reason Failure : Type 0} (output : Output Reason) (held held' begin left : Option (List ℕ))
    (So : Type 0) (fault : JobFault Reason Failure) → IsOfPutting So fault →
    Between (LeavesPart output held held') begin left → Between (Leaves output held held' fault) begin left
output_leaves output held held' begin left So job_fault.Write is leaves = leaves
output_leaves output held held' begin left So job_fault.Memory is leaves = leaves
output_leaves output held held' begin left So (job_fault.Failed failure) is leaves = leaves
output_leaves output held held' begin left So job_fault.Read is leaves = absurd is
output_leaves output held held' begin left So job_fault.TooMuch is leaves = absurd is
output_leaves output held held' begin left So (job_fault.Refused reason) is leaves = absurd is

-- ---- replies to lines, one after another

module _ {State Reason : Type 0} (work : LineWork State Reason) where
  -- the replies to some lines and to more of them
  pub replies_append : (state : State) (done more : List (List ℕ)) →
      replies work state (done ++ more) ≡ replies work state done ++ replies work (after_all work state done) more
  replies_append state [] more = refl
  replies_append state (piece ∷ done) more =
      ap (λ text. work.reply state (line_met piece) ++ text) (replies_append
      (work.after state (line_met piece)) done more)
      ∙ sym (append_assoc (work.reply state (line_met piece)) (replies work (work.after state (line_met piece)) done)
      (replies work (after_all work (work.after state (line_met piece)) done) more))

  -- what the job knows after them
  after_append : (state : State) (done more : List (List ℕ)) →
      after_all work state (done ++ more) ≡ after_all work (after_all work state done) more
  after_append state [] more = refl
  after_append state (piece ∷ done) more = after_append (work.after state (line_met piece)) done more

-- ---- a job that knew this at first

module _ {State Reason : Type 0} (work : LineWork State Reason) (start : State) where
  -- the replies to the lines of some bytes
  abbrev replied : List ℕ → List ℕ
  replied done = replies work start (pieces done)

  -- what the job knows after them
  abbrev known : List ℕ → State
  known done = after_all work start (pieces done)

  -- one more line
  replied_next : (done piece : List ℕ) → pieces (done ++ piece) ≡ pieces done ++ piece ∷ [] →
      replied (done ++ piece) ≡ replied done ++ work.reply (known done) (line_met piece)
  replied_next done piece are =
      ap (replies work start) are ∙ replies_append work start (pieces done) (piece ∷ [])
      ∙ ap (λ text. replied done ++ text) (append-nil (work.reply (known done) (line_met piece)))

  -- and what is known after it
  pub known_next : (done piece : List ℕ) → pieces (done ++ piece) ≡ pieces done ++ piece ∷ [] →
      known (done ++ piece) ≡ work.after (known done) (line_met piece)
  known_next done piece are = ap (after_all work start) are ∙ after_append work start (pieces done) (piece ∷ [])

  -- it is accepted
  pub accepted_next : (done piece : List ℕ) (state : State) (line : List ℕ) →
      pieces (done ++ piece) ≡ pieces done ++ piece ∷ [] → state ≡ known done → line ≡ line_of piece →
      AcceptsLines (output_by work start) done → Accepts work state (met line) →
      AcceptsLines (output_by work start) (done ++ piece)
  accepted_next done piece state line are state_is line_is accepted next =
      let here : Accepts work (known done) (line_met piece) =
      subst (λ line. Accepts work (known done) (met line)) line_is
      (subst (λ state. Accepts work state (met line)) state_is next) in
      subst (AcceptsBehind (output_by work start) []) (sym are)
      (accepted_behind (output_by work start) [] (pieces done) piece accepted
      (λ reason. subst (λ done. ¬ work.Refuses (known done) (line_met piece) reason) (sym (pieces_joined done))
      (here reason)))

  -- or a part of it
  end_broken : (held between held' begin left : Option (List ℕ)) (state : State) →
      Between (Replied work start state held between) begin left →
      ClosesPart (work.Closing state) between held' → Between (LeavesPart (output_by work start) held held') begin left
  end_broken held between held' begin left state all closes =
      between_weaker (Replied work start state held between) (LeavesPart (output_by work start) held held') begin left
      (λ bytes rest done. stopped_closing (record {
        read = done.read;
        closing = closes.text;
        may = rw done.state_is at closes.may;
        part = record {
          some = record {
            written = replied bytes ++ closes.part.some.written;
            more = closes.part.some.more;
            appended = Appends_trans held between held' (replied bytes) closes.part.some.written done.written
                closes.part.some.appended;
            front = append_assoc (replied bytes) closes.part.some.written closes.part.some.more
                ∙ ap (λ text. replied bytes ++ text) closes.part.some.front;
          };
          proper = closes.part.proper;
        };
      })) all

  -- the closing text was not written whole
  pub unclosed : (Failure : Type 0) (fault : PutFault) (held between held' begin left : Option (List ℕ))
      (state : State) →
      Between (Replied work start state held between) begin left → ClosesPart (work.Closing state) between held' →
      Between (Leaves {Failure = Failure} (output_by work start) held held' (of_output fault)) begin left
  unclosed Failure put_fault.Write held between held' begin left state all part =
      end_broken held between held' begin left state all part
  unclosed Failure put_fault.Memory held between held' begin left state all part =
      end_broken held between held' begin left state all part

  -- all replies were written, and nothing of what closes the output
  end_reached : (held held' begin left : Option (List ℕ)) (state : State) →
      Between (Replied work start state held held') begin left →
      Between (LeavesPart (output_by work start) held held') begin left
  end_reached held held' begin left state all =
      between_weaker (Replied work start state held held') (LeavesPart (output_by work start) held held') begin left
      (λ bytes rest done. stopped_at_end (record {
        read = done.read;
        some = all_written held held' (replied bytes) done.written;
      })) all

  -- the job stopped at the end of its input: there was no memory, or it failed, or it refuses it
  pub end_stopped : {Failure : Type 0} (halt : Stop Reason Failure) (held held' begin left : Option (List ℕ))
      (state : State) →
      Between (Replied work start state held held') begin left → RefusedFor (work.RefusesEnd state) halt →
      Between (Leaves (output_by work start) held held' (of_stop halt)) begin left
  end_stopped stop.Memory held held' begin left state all refuses = end_reached held held' begin left state all
  end_stopped (stop.Failed failure) held held' begin left state all refuses =
      end_reached held held' begin left state all
  end_stopped (stop.Refused reason) held held' begin left state all refuses =
      between_weaker (Replied work start state held held') (IsRefused (output_by work start) reason held held') begin
      left
      (λ bytes rest done. refused_input (record {
        read = done.read;
        accepted = done.accepted;
        refuses = subst (λ state. work.RefusesEnd state reason) done.state_is refuses;
        written = done.written;
      })) all

-- ---- a job since its first moment

module _ {State Reason : Type 0} (work : LineWork State Reason) (first : Moment State) where
  -- the replies to all lines so far are those that were written and those that the buffer holds
  pub all_replies : (settled waiting : List (List ℕ)) (done buffer : List ℕ) → pieces done ≡ settled ++ waiting →
      buffer ≡ replies work (after_all work first.state settled) waiting →
      replies work first.state settled ++ buffer ≡ replied work first.state done
  all_replies settled waiting done buffer are held_back =
      ap (λ buffer. replies work first.state settled ++ buffer) held_back
      ∙ sym (ap (replies work first.state) are ∙ replies_append work first.state settled waiting)

  -- the buffer holds one reply more
  pub one_more : (settled waiting : List (List ℕ)) (done piece buffer line : List ℕ) (state : State) →
      pieces done ≡ settled ++ waiting → state ≡ known work first.state done → line ≡ line_of piece →
      buffer ≡ replies work (after_all work first.state settled) waiting →
      buffer ++ work.reply state (met line)
      ≡ replies work (after_all work first.state settled) (waiting ++ piece ∷ [])
  one_more settled waiting done piece buffer line state are state_is line_is held_back =
      let behind = after_all work first.state settled in
      let here : state ≡ after_all work behind waiting =
      state_is ∙ (ap (after_all work first.state) are ∙ after_append work first.state settled waiting) in
      ap (λ buffer. buffer ++ work.reply state (met line)) held_back
      ∙ (ap (λ text. replies work behind waiting ++ text)
      (ap (λ state. work.reply state (met line)) here
      ∙ (ap (λ line. work.reply (after_all work behind waiting) (met line)) line_is
      ∙ sym (append-nil (work.reply (after_all work behind waiting) (line_met piece)))))
      ∙ sym (replies_append work behind waiting (piece ∷ [])))

  -- the next line was replied to
  unfoldable pub served_next : (now next : Moment State) (held held' : Option (List ℕ))
      (buffer bytes text rest line : List ℕ) →
      Served work first now held held' buffer bytes text → IsFirstLine next.lines.ended line text rest →
      next.state ≡ work.after now.state (met line) → Accepts work now.state (met line) →
      Served work first next held held' (buffer ++ work.reply now.state (met line)) bytes rest
  served_next now next held held' buffer bytes text rest line served one after accepted =
      let are = pieces_next now.lines.ended next.lines.ended bytes served.done text line rest served.so_far one in
      record {
        done = served.done ++ one.piece;
        settled = served.settled;
        waiting = served.waiting ++ one.piece ∷ [];
        are = are ∙ (ap (λ parts. parts ++ one.piece ∷ []) served.are
            ∙ append_assoc served.settled served.waiting (one.piece ∷ []));
        so_far = done_next now.lines.ended next.lines.ended bytes served.done text line rest served.so_far one;
        state_is = after ∙ (ap (λ state. work.after state (met line)) served.state_is
            ∙ (ap (λ line. work.after (known work first.state served.done) (met line)) one.line_is
            ∙ sym (known_next work first.state served.done one.piece are)));
        written = served.written;
        held_back = one_more served.settled served.waiting served.done one.piece buffer line now.state served.are
            served.state_is one.line_is served.held_back;
        accepted = accepted_next work first.state served.done one.piece now.state line are served.state_is one.line_is
            served.accepted accepted;
      }

  -- the replies that waited were written
  unfoldable pub served_put : (now : Moment State) (state : State) (held between held' : Option (List ℕ))
      (buffer bytes text : List ℕ) → Served work first now held between buffer bytes text → state ≡ now.state →
      Appends between held' buffer → Served work first (moment state now.lines now.left) held held' [] bytes text
  served_put now state held between held' buffer bytes text served kept appended = record {
    done = served.done;
    settled = pieces served.done;
    waiting = [];
    are = sym (append-nil (pieces served.done));
    so_far = served.so_far;
    state_is = kept ∙ served.state_is;
    written = rw (← all_replies served.settled served.waiting served.done buffer served.are served.held_back)
        (Appends_trans held between held' (replies work first.state served.settled) buffer served.written appended);
    held_back = refl;
    accepted = served.accepted;
  }

  -- the end was seen behind them
  unfoldable pub served_end : (now last : Moment State) (held held' : Option (List ℕ)) (buffer bytes text : List ℕ) →
      Served work first now held held' buffer bytes text → text ≡ [] → IsTrue last.lines.ended →
      last.state ≡ now.state → Served work first last held held' buffer bytes []
  served_end now last held held' buffer bytes text served none ended kept = record {
    done = served.done;
    settled = served.settled;
    waiting = served.waiting;
    are = served.are;
    so_far = record {
      cut = served.so_far.cut ∙ ap (λ text. served.done ++ text) none;
      pieces_are = served.so_far.pieces_are ∙ ap (λ text. pieces served.done ++ pieces text) none;
      whole = or_right (is_whole served.done) last.lines.ended ended;
      spent = λ _. refl;
    };
    state_is = kept ∙ served.state_is;
    written = served.written;
    held_back = served.held_back;
    accepted = served.accepted;
  }

  -- where no reply waits all were written
  written_whole : (now : Moment State) (held held' : Option (List ℕ)) (bytes text : List ℕ) →
      (served : Served work first now held held' [] bytes text) →
      Appends held held' (replied work first.state served.done)
  written_whole now held held' bytes text served =
      rw (← all_replies served.settled served.waiting served.done [] served.are served.held_back)
      (subst (Appends held held') (sym (append-nil (replies work first.state served.settled))) served.written)

  -- the input was read to its end, and no reply waits
  pub served_all : (last : Moment State) (held held' : Option (List ℕ)) → IsFresh first.lines →
      IsServed work first last held held' [] → Moves first last → IsTrue last.lines.ended →
      Between (Replied work first.state last.state held held') first.left last.left
  served_all last held held' fresh served moves ended =
      known_bytes first.left last.lines.ended last.lines.waiting last.left served ended (moves.spent ended)
      (read_to_end first last fresh moves ended)
    where
      known_bytes : (begin : Option (List ℕ)) (ended : Bool) (waiting : List ℕ) (left : Option (List ℕ)) →
          Between (Served work first last held held' []) begin (joined ended waiting left) → IsTrue ended →
          waiting ≡ [] → Between IsRead begin left →
          Between (Replied work first.state last.state held held') begin left
      known_bytes None ended waiting left served is none read = tt
      known_bytes (Some bytes) ended waiting None served is none read = absurd read
      known_bytes (Some bytes) false waiting (Some left) served is none read = cc
      known_bytes (Some bytes) true waiting (Some left) served is none read =
          let all : bytes ≡ served.done = served.so_far.cut ∙ (ap (λ tail. served.done ++ tail) none
          ∙ append-nil served.done) in
          record {
            read = read;
            state_is = served.state_is ∙ ap (known work first.state) (sym all);
            written = rw all (written_whole last held held' bytes waiting served);
            accepted = rw all served.accepted;
          }

  -- ---- where a part of the replies was written

  -- these lines are done, and a front part of the replies to them was written
  record WritesDone (ended : Bool) (held held' : Option (List ℕ)) (bytes rest : List ℕ) : Type 0 where
    done : List ℕ
    so_far : IsDone ended bytes done rest
    some : WritesSome held held' (replied work first.state done)

  -- where the end wasn't seen, it is a front part of the replies to the lines whose line feed was taken
  done_within : (held held' : Option (List ℕ)) (bytes waiting left : List ℕ) →
      WritesDone false held held' bytes (waiting ++ left) →
      WritesTakenPart (output_by work first.state) held held' bytes left
  done_within held held' bytes waiting left part =
      let whole = done_whole bytes part.done (waiting ++ left) false part.so_far refl in
      let rest = takes_front waiting left in
      record {
        takes = record {
          whole = part.done ++ rest.whole;
          part = rest.part;
          cut = part.so_far.cut ∙ (ap (λ tail. part.done ++ tail) rest.cut
              ∙ parts part.done rest.whole rest.part left);
          whole_lines = whole_append part.done rest.whole whole rest.whole_lines;
          no_feed = rest.no_feed;
        };
        some = rw (ap (replies work first.state) (pieces_append part.done rest.whole whole)
            ∙ replies_append work first.state (pieces part.done) (pieces rest.whole))
            (some_of_more held held' (replied work first.state part.done)
            (replies work (known work first.state part.done) (pieces rest.whole)) part.some);
      }
    where
      parts : (one two three four : List ℕ) → one ++ ((two ++ three) ++ four) ≡ ((one ++ two) ++ three) ++ four
      parts one two three four = rw (
        append_assoc (one ++ two) three four,
        append_assoc one two (three ++ four),
        append_assoc two three four,
      )

  -- either way a part is left
  leaves_part : (now : Moment State) (held held' : Option (List ℕ)) → IsFresh first.lines → Moves first now →
      Between (WritesDone now.lines.ended held held') first.left (ahead now.lines now.left) →
      Between (LeavesPart (output_by work first.state) held held') first.left now.left
  leaves_part now held held' fresh moves done =
      known_bytes now.lines.ended first.left now.lines.waiting now.left done moves.counted moves.spent
      (read_to_end first now fresh moves)
    where
      known_bytes : (ended : Bool) (begin : Option (List ℕ)) (waiting : List ℕ) (left : Option (List ℕ)) →
          Between (WritesDone ended held held') begin (joined ended waiting left) →
          Between (Counts first.lines.taken now.lines.taken) begin left → (IsTrue ended → waiting ≡ []) →
          (IsTrue ended → Between IsRead begin left) →
          Between (LeavesPart (output_by work first.state) held held') begin left
      known_bytes ended None waiting left part counted spent read = tt
      known_bytes ended (Some bytes) waiting None part counted spent read = absurd counted
      known_bytes false (Some bytes) waiting (Some left) part counted spent read =
          stopped_within (done_within held held' bytes waiting left part)
      known_bytes true (Some bytes) waiting (Some left) part counted spent read =
          stopped_at_end (record {
            read = read refl;
            some = rw (done_all true bytes part.done waiting part.so_far (spent refl)) at part.some;
          })

  -- a front part of the replies that waited was written
  part_put : (now : Moment State) (held between held' : Option (List ℕ)) (buffer : List ℕ) → IsFresh first.lines →
      IsServed work first now held between buffer → Moves first now → WritesSome between held' buffer →
      Between (LeavesPart (output_by work first.state) held held') first.left now.left
  part_put now held between held' buffer fresh served moves some =
      leaves_part now held held' fresh moves
      (between_weaker (Served work first now held between buffer) (WritesDone now.lines.ended held held') first.left
      (ahead now.lines now.left) (λ bytes rest served. record {
        done = served.done;
        so_far = served.so_far;
        some = some_behind held between held' (replies work first.state served.settled) buffer
            (replied work first.state served.done) served.written some
            (all_replies served.settled served.waiting served.done buffer served.are served.held_back);
      }) served)

  -- the next line was met, and the reply to it wasn't written
  part_before : {Failure : Type 0} (now next : Moment State) (held between held' : Option (List ℕ)) (buffer : List ℕ)
      (one : Line)
      (made : Result (Unit {0}) (Stop Reason Failure)) (out : List ℕ) → IsFresh first.lines →
      IsServed work first now held between buffer →
      Between (Replies work now.state next.state next.lines.ended (Some made) out one) (ahead now.lines now.left)
      (ahead next.lines next.left) →
      Moves first next → WritesSome between held' buffer →
      Between (LeavesPart (output_by work first.state) held held') first.left next.left
  part_before now next held between held' buffer one made out fresh served replied_so moves some =
      leaves_part next held held' fresh moves
      (between_trans (Served work first now held between buffer)
      (Replies work now.state next.state next.lines.ended (Some made) out one)
      (WritesDone next.lines.ended held held') first.left (ahead now.lines now.left) (ahead next.lines next.left)
      (λ bytes text rest served met. record {
        done = served.done ++ met.1.piece;
        so_far = done_next now.lines.ended next.lines.ended bytes served.done text met.0 rest served.so_far met.1;
        some = rw (replied_next work first.state served.done met.1.piece
            (pieces_next now.lines.ended next.lines.ended bytes served.done text met.0 rest served.so_far met.1))
            (some_of_more held held' (replied work first.state served.done)
            (work.reply (known work first.state served.done) (line_met met.1.piece))
            (some_behind held between held' (replies work first.state served.settled) buffer
            (replied work first.state served.done) served.written some
            (all_replies served.settled served.waiting served.done buffer served.are served.held_back)));
      }) served replied_so)

  -- ---- where the job stopped at a line

  -- the replies to the lines before it were written, all of them
  served_before : {Job : Type 0} (Did : Deeds Job) (each : Bool) (job job' : Job) (now : Moment State)
      (held between held' : Option (List ℕ)) (buffer : List ℕ) → IsServed work first now held between buffer →
      (each ≡ true → buffer ≡ []) → PutsBefore Did each job job' between held' buffer →
      IsServed work first now held held' []
  served_before Did each job job' now held between held' buffer served none (inl idle) =
      rw (idle.2, ← none idle.0) served
  served_before Did each job job' now held between held' buffer served none (inr put) =
      between_weaker (Served work first now held between buffer) (Served work first now held held' []) first.left
      (ahead now.lines now.left)
      (λ bytes text served. served_put now now.state held between held' buffer bytes text served refl put.1.written)
      served

  -- a front part of them
  pub some_before : {Job : Type 0} (Did : Deeds Job) (each : Bool) (job job' : Job) (between held' : Option (List ℕ))
      (buffer : List ℕ) → PutsBefore Did each job job' between held' buffer → WritesSome between held' buffer
  some_before Did each job job' between held' buffer (inl idle) = rw idle.2 (nothing_written between buffer)
  some_before Did each job job' between held' buffer (inr put) = all_written between held' buffer put.1.written

  -- the same, where they weren't written whole
  pub some_part : {Job : Type 0} (Did : Deeds Job) (each : Bool) (job job' : Job) (between held' : Option (List ℕ))
      (buffer : List ℕ) → PutsPart Did each job job' between held' buffer → WritesSome between held' buffer
  some_part Did each job job' between held' buffer (inl put) = put.1
  some_part Did each job job' between held' buffer (inr put) = rw put.1 (nothing_written between buffer)

  -- the job refused its input with the next line
  stopped_refused : (Failure : Type 0) (now next : Moment State) (reason : Reason) (held held' : Option (List ℕ))
      (one : Line)
      (out : List ℕ) → IsFresh first.lines → IsServed work first now held held' [] →
      Between (Replies {Failure = Failure} work now.state next.state next.lines.ended
      (Some (Err (stop.Refused reason))) out one)
      (ahead now.lines now.left) (ahead next.lines next.left) → Moves first next →
      Between (IsRefused (output_by work first.state) reason held held') first.left next.left
  stopped_refused Failure now next reason held held' one out fresh served replied_so moves =
      known_bytes next.lines.ended first.left
      (ahead now.lines now.left) next.lines.waiting next.left served replied_so moves.counted
      moves.spent (read_to_end first next fresh moves)
    where
      refused : (bytes text line waiting left : List ℕ) → Served work first now held held' [] bytes text →
          (piece : List ℕ) → text ≡ piece ++ (waiting ++ left) → pieces text ≡ piece ∷ pieces (waiting ++ left) →
          line ≡ line_of piece → work.Refuses now.state (met line) reason →
          IsRefused (output_by work first.state) reason held held' bytes left
      refused bytes text line waiting left served piece cut are line_is refuses = refused_line (record {
        done = served.done;
        piece = piece;
        waiting = waiting;
        cut = served.so_far.cut ∙ ap (λ rest. served.done ++ rest) cut;
        is_line = served.so_far.pieces_are ∙ ap (λ parts. pieces served.done ++ parts) are;
        accepted = served.accepted;
        refuses = subst (λ line. work.Refuses (known work first.state served.done) (met line) reason) line_is
            (subst (λ state. work.Refuses state (met line) reason) served.state_is refuses);
        written = written_whole now held held' bytes text served;
      })

      known_bytes : (ended : Bool) (begin text : Option (List ℕ)) (waiting : List ℕ) (left : Option (List ℕ)) →
          Between (Served work first now held held' []) begin text →
          Between (Replies {Failure = Failure} work now.state next.state ended
          (Some (Err (stop.Refused reason))) out one) text
          (joined ended waiting left) →
          Between (Counts first.lines.taken next.lines.taken) begin left → (IsTrue ended → waiting ≡ []) →
          (IsTrue ended → Between IsRead begin left) →
          Between (IsRefused (output_by work first.state) reason held held') begin left
      known_bytes ended None text waiting left served replied counted spent read = tt
      known_bytes ended (Some bytes) None waiting left served replied counted spent read = absurd served
      known_bytes ended (Some bytes) (Some text) waiting None served replied counted spent read = absurd counted
      known_bytes true (Some bytes) (Some text) waiting (Some left) served replied counted spent read =
          let none : left ≡ [] = (read refl).to_end in
          refused bytes text replied.0 waiting left served replied.1.piece
          (replied.1.cut ∙ ap (λ rest. replied.1.piece ++ rest)
          (sym (ap (λ rest. waiting ++ rest) none ∙ append-nil waiting)))
          (replied.1.pieces_are ∙ ap (λ rest. replied.1.piece ∷ pieces rest)
          (sym (ap (λ rest. waiting ++ rest) none ∙ append-nil waiting))) replied.1.line_is replied.2.refused
      known_bytes false (Some bytes) (Some text) waiting (Some left) served replied counted spent read =
          refused bytes text replied.0 waiting left served replied.1.piece replied.1.cut replied.1.pieces_are
          replied.1.line_is replied.2.refused

  -- the job stopped at the next line: there was no memory, or it failed, or it refuses it
  pub unreplied : {Job Failure : Type 0} (Did : Deeds Job) (each : Bool) (job job' : Job) (halt : Stop Reason Failure)
      (now next : Moment State) (held between held' : Option (List ℕ)) (buffer : List ℕ) (one : Line)
      (made : Result (Unit {0}) (Stop Reason Failure)) (out : List ℕ) → made ≡ Err halt → IsFresh first.lines →
      IsServed work first now held between buffer →
      Between (Replies work now.state next.state next.lines.ended (Some made) out one) (ahead now.lines now.left)
      (ahead next.lines next.left) → Moves first next → (each ≡ true → buffer ≡ []) →
      PutsBefore Did each job job' between held' buffer →
      Between (Leaves (output_by work first.state) held held' (of_stop halt)) first.left next.left
  unreplied Did each job job' stop.Memory now next held between held' buffer one made out is fresh served replied_so
      moves none puts =
      part_before now next held between held' buffer one made out fresh served replied_so moves
      (some_before Did each job job' between held' buffer puts)
  unreplied Did each job job' (stop.Failed failure) now next held between held' buffer one made out is fresh served
      replied_so moves none puts =
      part_before now next held between held' buffer one made out fresh served replied_so moves
      (some_before Did each job job' between held' buffer puts)
  unreplied Did each job job' (stop.Refused reason) now next held between held' buffer one made out is fresh served
      replied_so moves none puts =
      stopped_refused _ now next reason held held' one out fresh
      (served_before Did each job job' now held between held' buffer served none puts)
      (subst (λ made. Between (Replies work now.state next.state next.lines.ended (Some made) out one)
      (ahead now.lines now.left) (ahead next.lines next.left)) is replied_so) moves

  -- ---- where the replies weren't written whole

  -- those that waited when a line stopped the job
  pub unput_before : {Job Failure : Type 0} (Did : Deeds Job) (each : Bool) (job job' : Job) (So : Type 0)
      (fault : JobFault Reason Failure) → IsOfPutting So fault → (now next : Moment State)
      (held between held' : Option (List ℕ)) (buffer : List ℕ) (one : Line)
      (made : Result (Unit {0}) (Stop Reason Failure)) (out : List ℕ) → IsFresh first.lines →
      IsServed work first now held between buffer →
      Between (Replies work now.state next.state next.lines.ended (Some made) out one) (ahead now.lines now.left)
      (ahead next.lines next.left) → Moves first next → PutsPart Did each job job' between held' buffer →
      Between (Leaves (output_by work first.state) held held' fault) first.left next.left
  unput_before Did each job job' So fault is now next held between held' buffer one made out fresh served replied_so
      moves
      puts =
      output_leaves (output_by work first.state) held held' first.left next.left So fault is
      (part_before now next held between held' buffer one made out fresh served replied_so moves
      (some_part Did each job job' between held' buffer puts))

  -- those that waited
  pub unput : {Job Failure : Type 0} (Did : Deeds Job) (each : Bool) (job job' : Job) (So : Type 0)
      (fault : JobFault Reason Failure) → IsOfPutting So fault → (now : Moment State)
      (held between held' : Option (List ℕ)) (buffer : List ℕ) → IsFresh first.lines →
      IsServed work first now held between buffer → Moves first now → PutsPart Did each job job' between held' buffer →
      Between (Leaves (output_by work first.state) held held' fault) first.left now.left
  unput Did each job job' So fault is now held between held' buffer fresh served moves puts =
      output_leaves (output_by work first.state) held held' first.left now.left So fault is
      (part_put now held between held' buffer fresh served moves
      (some_part Did each job job' between held' buffer puts))

  -- none at all: there was no memory to hold one more
  pub unheld : {Failure : Type 0} (now next : Moment State) (held held' : Option (List ℕ)) (buffer : List ℕ)
      (one : Line)
      (made : Result (Unit {0}) (Stop Reason Failure)) (out : List ℕ) → IsFresh first.lines →
      IsServed work first now held held' buffer →
      Between (Replies work now.state next.state next.lines.ended (Some made) out one) (ahead now.lines now.left)
      (ahead next.lines next.left) → Moves first next →
      Between (LeavesPart (output_by work first.state) held held') first.left next.left
  unheld now next held held' buffer one made out fresh served replied_so moves =
      part_before now next held held' held' buffer one made out fresh served replied_so moves
      (nothing_written held' buffer)

  -- ---- where the source fails

  -- it was asked, so no whole line stood there
  asked : (lines : LinesState) (left left' : List ℕ) (fault : IoFault) → lines.ended ≡ false →
      lines.taken ≤ LONGEST_INPUT → Stops lines.taken (joined lines.ended lines.waiting (Some left)) (Some left)
      (Some left') fault → left' ≡ left → has_no_feed lines.waiting ≡ true
  asked lines left left' io_fault.Read unended limit stops same =
      let passed : Passes (lines.waiting ++ left) left = rw (unended, same) at (stops.read refl).1 in
      rw (append_cancel_right lines.waiting passed.part left passed.cut) passed.no_feed
  asked lines left left' io_fault.TooMuch unended limit stops same =
      let counted : length left + lines.taken ≡ length left' + stops.reached = stops.counted in
      let long : length left' ≡ length left = ap length same in
      let over : stops.reached ≡ LONGEST_INPUT + 1 = (stops.too_much refl).0 in
      absurd (omega (arith, counted, long, over, limit))

  -- and no reply waited
  pub served_idle : (now : Moment State) (held held' left : Option (List ℕ)) (buffer : List ℕ)
      (fault : IoFault) → IsServed work first now held held' buffer → Moves first now →
      now.lines.ended ≡ false → Stops now.lines.taken (ahead now.lines now.left) now.left left fault →
      (IsTrue (needs_no_source now.lines) → left ≡ now.left) →
      (needs_no_source now.lines ≡ false → buffer ≡ []) → IsServed work first now held held' []
  served_idle now held held' left buffer fault served moves unended stops unasked idle =
      known_bytes first.left now.left left served moves.counted stops unasked
    where
      no_feeds : (ended no_feed : Bool) → ended ≡ false → no_feed ≡ true → (ended || not no_feed) ≡ false
      no_feeds true no_feed unended none = cc
      no_feeds false true unended none = refl
      no_feeds false false unended none = cc

      empty : (source left : List ℕ) →
          Stops now.lines.taken (joined now.lines.ended now.lines.waiting (Some source)) (Some source) (Some left)
          fault →
          (IsTrue (needs_no_source now.lines) → Some left ≡ Some source) → (next : Bool) →
          needs_no_source now.lines ≡ next → buffer ≡ []
      empty source left stops unasked false is = idle is
      empty source left stops unasked true is =
          let known = unasked is in
          let same : left ≡ source = cc in
          idle (no_feeds now.lines.ended (has_no_feed now.lines.waiting) unended
          (asked now.lines source left fault unended moves.limit stops same))

      known_bytes : (begin source left : Option (List ℕ)) →
          Between (Served work first now held held' buffer) begin (joined now.lines.ended now.lines.waiting source) →
          Between (Counts first.lines.taken now.lines.taken) begin source →
          Stops now.lines.taken (joined now.lines.ended now.lines.waiting source) source left fault →
          (IsTrue (needs_no_source now.lines) → left ≡ source) →
          Between (Served work first now held held' []) begin (joined now.lines.ended now.lines.waiting source)
      known_bytes None source left served counted stops unasked = tt
      known_bytes (Some bytes) None left served counted stops unasked = absurd counted
      known_bytes (Some bytes) (Some source) None served counted stops unasked = absurd stops.counted
      known_bytes (Some bytes) (Some source) (Some left) served counted stops unasked =
          rw (← empty source left stops unasked (needs_no_source now.lines) refl) served

  -- the source failed, or gave too much, in the middle of a line
  taken_exactly : (now : Moment State) (held held' : Option (List ℕ)) (bytes text left : List ℕ) →
      Served work first now held held' [] bytes text →
      now.lines.ended ≡ false → Passes text left →
      WritesTaken (output_by work first.state) held held' bytes left
  taken_exactly now held held' bytes text left served unended passes = record {
    takes = record {
      whole = served.done;
      part = passes.part;
      cut = served.so_far.cut ∙ (ap (λ rest. served.done ++ rest) passes.cut
          ∙ sym (append_assoc served.done passes.part left));
      whole_lines = done_whole bytes served.done text now.lines.ended served.so_far unended;
      no_feed = passes.no_feed;
    };
    accepted = served.accepted;
    written = written_whole now held held' bytes text served;
  }

  -- where it failed, or gave too much, what was written is known to the byte
  pub stopped_read : (Failure : Type 0) (now : Moment State) (held held' left : Option (List ℕ)) (fault : IoFault) →
      IsFresh first.lines → IsServed work first now held held' [] → Moves first now → now.lines.ended ≡ false →
      Stops now.lines.taken (ahead now.lines now.left) now.left left fault →
      Between (Leaves {Failure = Failure} (output_by work first.state) held held' (of_lines fault)) first.left left
  stopped_read Failure now held held' left io_fault.Read fresh served moves unended stops =
      between_trans (Served work first now held held' []) Passes (WritesTaken (output_by work first.state) held held')
      first.left (ahead now.lines now.left) left
      (λ bytes text after here passes. taken_exactly now held held' bytes text after here unended passes) served
      (stops.read refl).1
  stopped_read Failure now held held' left io_fault.TooMuch fresh served moves unended stops =
      let taken = between_trans (Served work first now held held' []) PassesMore
      (λ bytes after. (last : ℕ) × WritesTaken (output_by work first.state) held held' bytes (last ∷ after))
      first.left (ahead now.lines now.left) left
      (λ bytes text after here passes. (
        passes.last,
        taken_exactly now held held' bytes text
            (passes.last ∷ after) here unended passes.passes,
      ))
      served (stops.too_much refl).1 in
      between_both (λ bytes after. (last : ℕ) × WritesTaken (output_by work first.state) held held' bytes
      (last ∷ after))
      (Counts 0 268435457) (WritesTakenAndMore (output_by work first.state) held held') first.left left
      (λ bytes after more counted. record {
        last = more.0;
        taken = more.1;
        full = full_length bytes (more.1.takes.whole ++ more.1.takes.part) after more.0 more.1.takes.cut counted;
      }) taken (much_counted first now left fresh moves stops)
