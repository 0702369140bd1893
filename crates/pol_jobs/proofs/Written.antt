-- Parts of some bytes that were written.
use Rattle.std.proofs.Common.{ℕ, ◌≡◌, ◌<◌, List, [], ◌++◌, length, take, drop, refl, sym, ◌∙◌, ap, arith, append_assoc, append-nil, length-drop, take-append-drop}
use Rattle.std.specs.Prelude.{Option}
use Rattle.std.specs.Io.KnownBytes.{Appends}
use Rattle.pol_io.proofs.Known.{Appends_none, Appends_trans, Keeps_refl}
use Rattle.pol_jobs.specs.Written.{WritesPart, WritesSome}

-- before anything is written, none of the bytes is
pub nothing_written : (held : Option (List ℕ)) (all : List ℕ) → WritesSome held held all
nothing_written held all = record {
  written = [];
  more = all;
  appended = Appends_none held held (Keeps_refl held);
  front = refl;
}

-- once all are written, a front part is
pub all_written : (held held' : Option (List ℕ)) (all : List ℕ) → Appends held held' all → WritesSome held held' all
all_written held held' all appended = record { written = all; more = []; appended = appended; front = append-nil all }

-- a front part that is shorter than the whole is a proper one
pub front_written : (held held' : Option (List ℕ)) (all : List ℕ) (size : ℕ) → size < length all →
    Appends held held' (take size all)
    → WritesPart held held' all
front_written held held' all size less appended = record {
  some = record {
    written = take size all;
    more = drop size all;
    appended = appended;
    front = take-append-drop size all;
  };
  proper = rw (length-drop size all) (omega arith);
}

-- a proper front part is a front part
pub some_written : (held held' : Option (List ℕ)) (all : List ℕ) → WritesPart held held' all → WritesSome held held' all
some_written held held' all part = part.some

-- a front part of some bytes is written behind others
pub some_behind : (held between held' : Option (List ℕ)) (done all whole : List ℕ) → Appends held between done →
    WritesSome between held' all
    → done ++ all ≡ whole → WritesSome held held' whole
some_behind held between held' done all whole appended some is = record {
  written = done ++ some.written;
  more = some.more;
  appended = Appends_trans held between held' done some.written appended some.appended;
  front = append_assoc done some.written some.more ∙ ap (λ text. done ++ text) some.front ∙ is;
}

-- a front part of the bytes is one of more bytes
pub some_of_more : (held held' : Option (List ℕ)) (all later : List ℕ) → WritesSome held held' all →
    WritesSome held held' (all ++ later)
some_of_more held held' all later some = record {
  written = some.written;
  more = some.more ++ later;
  appended = some.appended;
  front = sym (append_assoc some.written some.more later) ∙ ap (λ text. text ++ later) some.front;
}

-- before anything is written of a line, a proper front part is: none
pub none_written : (held : Option (List ℕ)) (all : List ℕ) → 0 < length all → WritesPart held held all
unfolding nothing_written
none_written held all some = record { some = nothing_written held all; proper = some }
