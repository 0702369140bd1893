-- How a job ends that replies to no line, and reads its input before it writes anything.
use Rattle.std.proofs.Common.{ℕ, ◌≡◌, ◌<◌, ◌≤◌, ◌+◌, List, [], ◌∷◌, ◌++◌, Bool, true, false, ◌==◌, not, IsTrue, length, take, drop}
use Rattle.std.proofs.Common.{Option, None, Some, refl, sym, ap, ◌∙◌, arith, append_assoc, take-append-drop, length-drop, length-append, subst}
use Rattle.std.specs.Prelude.{Err, IfSome, Ok}
use Rattle.std.specs.Io.KnownBytes.{Consumes}
use Rattle.std.specs.declared.convert.Infallible.{Infallible}
use Rattle.pol_io.specs.Causes.{HasCauseOf, Rose}
use Rattle.pol_io.specs.Edge.{Edge}
use Rattle.pol_io.specs.Known.{Between}
use Rattle.pol_io.specs.Pieces.{has_no_feed, is_whole, pieces}
use Rattle.pol_io.specs.declared.limits.TheConstants.{LONGEST_INPUT}
use Rattle.pol_io.proofs.Known.{Appends_none, Keeps_refl, between_weaker}
use Rattle.pol_jobs.specs.Ends.{Ends, IsTooMuch, LeavesPart, Takes, WritesTaken, WritesTakenAndMore, stopped_within}
use Rattle.pol_jobs.specs.Ends.{IsRead, Writes, stopped_closing}
use Rattle.pol_jobs.specs.Faults.{of_output}
use Rattle.pol_jobs.specs.LineWork.{AcceptsBehind}
use Rattle.pol_jobs.specs.Written.{Closes, ClosesPart}
use Rattle.pol_jobs.specs.declared.fault.JobFault.TheVariants.{Read, Memory, TooMuch}
use Rattle.pol_jobs.specs.declared.output.PutFault.{PutFault}
use Rattle.pol_jobs.specs.declared.output.PutFault.TheVariants as of_sink
use Rattle.pol_jobs.proofs.Written.{nothing_written}
use Rattle.pol_stream.specs.Inputs.{fault_of, silent}
use Rattle.pol_stream.specs.Streams.{IsAll, TakesSome}
use Rattle.pol_stream.specs.declared.more.ReadFault.{ReadFault}
use Rattle.pol_stream.specs.declared.more.ReadFault.TheVariants as of_source
use Rattle.pol_stream.proofs.Streams.{takes_some}

-- ---- bytes as whole lines and a part of one

-- whole lines, and a part of a line behind them
record Cut (bytes : List ℕ) : Type 0 where
  whole : List ℕ
  part : List ℕ
  is : bytes ≡ whole ++ part
  whole_lines : IsTrue (is_whole whole)
  no_feed : IsTrue (has_no_feed part)

-- one more byte in front
cut_onto : (byte : ℕ) (bytes whole part : List ℕ) → bytes ≡ whole ++ part → IsTrue (is_whole whole) →
    IsTrue (has_no_feed part) → (feed : Bool) → (byte == 10) ≡ feed → Cut (byte ∷ bytes)
cut_onto byte bytes [] part is lines none true feed = record {
  whole = byte ∷ [];
  part = part;
  is = ap (λ rest. byte ∷ rest) is;
  whole_lines = feed;
  no_feed = none;
}
cut_onto byte bytes [] part is lines none false feed = record {
  whole = [];
  part = byte ∷ part;
  is = ap (λ rest. byte ∷ rest) is;
  whole_lines = refl;
  no_feed = rw feed none;
}
cut_onto byte bytes (first ∷ whole) part is lines none feed is_feed = record {
  whole = byte ∷ (first ∷ whole);
  part = part;
  is = ap (λ rest. byte ∷ rest) is;
  whole_lines = lines;
  no_feed = none;
}

-- any bytes are so
cut : (bytes : List ℕ) → Cut bytes
cut [] = record { whole = []; part = []; is = refl; whole_lines = refl; no_feed = refl }
cut (byte ∷ bytes) =
    let rest = cut bytes in
    cut_onto byte bytes rest.whole rest.part rest.is rest.whole_lines rest.no_feed (byte == 10) refl

-- what was taken of an input, by its bytes
takes : (taken bytes left : List ℕ) → bytes ≡ taken ++ left → Takes bytes left
takes taken bytes left is =
    let found = cut taken in
    record {
      whole = found.whole;
      part = found.part;
      cut = is ∙ ap (λ front. front ++ left) found.is;
      whole_lines = found.whole_lines;
      no_feed = found.no_feed;
    }

-- ---- the rows

-- what is so of the bytes before and after some were taken
between_taken : (Fact : List ℕ → List ℕ → Type 0) (old new : Option (List ℕ)) (taken : List ℕ) → Consumes old new taken →
    ((bytes left : List ℕ) → bytes ≡ taken ++ left → Fact bytes left) → Between Fact old new
between_taken Fact None new taken took fact = tt
between_taken Fact (Some bytes) None taken took fact = absurd took
between_taken Fact (Some bytes) (Some left) taken took fact = fact bytes left took

-- the same of those before
some_taken : (Fact : List ℕ → Type 0) (old new : Option (List ℕ)) (taken : List ℕ) → Consumes old new taken →
    ((bytes left : List ℕ) → bytes ≡ taken ++ left → Fact bytes) → IfSome old Fact
some_taken Fact None new taken took fact = tt
some_taken Fact (Some bytes) None taken took fact = absurd took
some_taken Fact (Some bytes) (Some left) taken took fact = fact bytes left took

-- bytes of which there are one more than so many, and the last of them
record Last (size : ℕ) (bytes : List ℕ) : Type 0 where
  last : ℕ
  is : bytes ≡ take size bytes ++ last ∷ []
  full : length (take size bytes) ≡ size

-- what is left of them behind so many is one byte
last_of : (size : ℕ) (bytes rest : List ℕ) → rest ≡ drop size bytes → length bytes ≡ size + 1 → Last size bytes
last_of size bytes [] is many =
    absurd (omega (arith, ap length is ∙ length-drop size bytes, many))
last_of size bytes (last ∷ []) is many = record {
  last = last;
  is = sym (take-append-drop size bytes) ∙ ap (λ rest. take size bytes ++ rest) (sym is);
  full = omega (
    arith,
    ap length (sym (take-append-drop size bytes) ∙ ap (λ rest. take size bytes ++ rest) (sym is))
        ∙ length-append (take size bytes) (last ∷ []),
    many,
  );
}
last_of size bytes (last ∷ (other ∷ rest)) is many =
    absurd (omega (arith, ap length is ∙ length-drop size bytes, many))

module _ (closing : List ℕ → List ℕ) (source source' sink : Edge) where
  -- no line is refused
  all_accepted : (done : List ℕ) (parts : List (List ℕ)) → AcceptsBehind (silent closing) done parts
  all_accepted done [] = tt
  all_accepted done (piece ∷ parts) = (λ reason refuses. refuses, all_accepted (done ++ piece) parts)

  -- nothing was written
  unwritten : (taken bytes left : List ℕ) → bytes ≡ taken ++ left →
      WritesTaken (silent closing) sink.bytes sink.bytes bytes left
  unwritten taken bytes left is = record {
    takes = takes taken bytes left is;
    accepted = all_accepted [] _;
    written = Appends_none sink.bytes sink.bytes (Keeps_refl sink.bytes);
  }

  module _ (taken : List ℕ) (took : Consumes source.bytes source'.bytes taken) where
    -- the source failed
    pub unread_ends : Rose source.faults source'.faults →
        Ends {Failure = Infallible} (silent closing) source source' sink sink (Err Read)
    unread_ends rose = (
      between_taken (WritesTaken (silent closing) sink.bytes sink.bytes) source.bytes source'.bytes taken took
          (unwritten taken),
      rose,
      refl,
    )

    -- there was no memory
    pub no_memory_ends : source'.faults ≡ source.faults →
        Ends {Failure = Infallible} (silent closing) source source' sink sink (Err Memory)
    no_memory_ends well = (
      between_taken (LeavesPart (silent closing) sink.bytes sink.bytes) source.bytes source'.bytes taken took
          (λ bytes left is. stopped_within (record {
            takes = takes taken bytes left is;
            some = nothing_written sink.bytes [];
          })),
      well,
      refl,
    )

    -- there were too many bytes
    pub too_much_ends : length taken ≡ LONGEST_INPUT + 1 → source'.faults ≡ source.faults →
        Ends {Failure = Infallible} (silent closing) source source' sink sink (Err TooMuch)
    unfolding unwritten takes
    too_much_ends many well =
        let found = last_of LONGEST_INPUT taken (drop LONGEST_INPUT taken) refl many in (
          between_taken (WritesTakenAndMore (silent closing) sink.bytes sink.bytes) source.bytes source'.bytes taken took
              (λ bytes left is.
              let front = take LONGEST_INPUT taken in
              let whole = unwritten front bytes (found.last ∷ left) (is ∙ ap (λ all. all ++ left) found.is
              ∙ append_assoc front (found.last ∷ []) left) in
              record {
                last = found.last;
                taken = whole;
                full = sym (ap length (cut front).is) ∙ found.full;
              }),
          well,
          refl,
          some_taken (λ bytes. LONGEST_INPUT < length bytes) source.bytes source'.bytes taken took
              (λ bytes left is. omega (arith, ap length is ∙ length-append taken left, many)),
        )

  -- a read stopped behind what was taken
  pub unread_by : {T : Type 0} (between : Option (List ℕ)) (bytes : List ℕ) →
      Consumes source.bytes between bytes → {before : ℕ} → before ≡ source.faults →
      TakesSome between source'.bytes → (fault : ReadFault) →
      HasCauseOf {T = T} of_source.Read before source'.faults (Err fault) →
      Ends (silent closing) source source' sink sink (Err (fault_of fault))
  unread_by between bytes so_far sound takes of_source.Read cause =
      let all = takes_some source.bytes between source'.bytes bytes so_far takes in
      unread_ends all.piece all.took (subst (λ faults. Rose faults source'.faults) sound (cause.failed refl))
  unread_by between bytes so_far sound takes of_source.Memory cause =
      let all = takes_some source.bytes between source'.bytes bytes so_far takes in
      no_memory_ends all.piece all.took (cause.other (λ same. cc) ∙ sound)

  -- ---- an input that was read

  module _ (bytes : List ℕ) (all : Between (IsAll bytes) source.bytes source'.bytes) (fits : length bytes ≤ LONGEST_INPUT)
      (well : source'.faults ≡ source.faults) where
    -- it was read to its end
    read : (before left : List ℕ) → IsAll bytes before left → IsRead before left
    read before left is = record {
      to_end = is.1;
      fits = subst (λ (bytes : List ℕ). length bytes ≤ LONGEST_INPUT) (sym is.0) fits;
    }

    module _ (sink' : Edge) where
      -- its text was written
      pub closed_ends : Closes (λ text. text ≡ closing bytes) sink.bytes sink'.bytes → sink'.faults ≡ sink.faults →
          Ends {Failure = Infallible} (silent closing) source source' sink sink' (Ok tt)
      closed_ends closes wrote = (
        between_weaker (IsAll bytes) (Writes (silent closing) sink.bytes sink'.bytes) source.bytes source'.bytes
            (λ before left is. record {
              read = read before left is;
              accepted = (all_accepted [] _, λ reason refuses. refuses);
              closing = closes.text;
              may = closes.may ∙ ap closing (sym is.0);
              written = closes.appended;
            }) all,
        well,
        wrote,
      )

      -- or a part of it
      leaves : ClosesPart (λ text. text ≡ closing bytes) sink.bytes sink'.bytes →
          Between (LeavesPart (silent closing) sink.bytes sink'.bytes) source.bytes source'.bytes
      leaves closes =
          between_weaker (IsAll bytes) (LeavesPart (silent closing) sink.bytes sink'.bytes) source.bytes source'.bytes
          (λ before left is. stopped_closing (record {
            read = read before left is;
            closing = closes.text;
            may = closes.may ∙ ap closing (sym is.0);
            part = closes.part;
          })) all

      pub unclosed_ends : {T : Type 0} → ClosesPart (λ text. text ≡ closing bytes) sink.bytes sink'.bytes →
          (fault : PutFault) → HasCauseOf {T = T} of_sink.Write sink.faults sink'.faults (Err fault) →
          Ends {Failure = Infallible} (silent closing) source source' sink sink' (Err (of_output fault))
      unclosed_ends closes of_sink.Write cause = (leaves closes, well, cause.failed refl)
      unclosed_ends closes of_sink.Memory cause = (leaves closes, well, cause.other (λ same. cc))
