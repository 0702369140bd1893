-- What each write of a record may leave.
use Rattle.std.proofs.Common.{◌≡◌, ◌≢◌, inl, inr, ⊎_elim, ℕ, ◌+◌, ◌<◌, ◌≤◌, ◌^◌, List, [], ◌∷◌, ◌++◌, length, take, drop, get_or, refl, sym, ◌∙◌, ap, subst, arith, append_assoc, length-append, take-append-drop}
use Rattle.std.proofs.lemmas.Bool.Decides.{eqb_tells}
use Rattle.std.proofs.lemmas.List.{append-nil, take_at, drop_at, drop_more}
use Rattle.pol_disk.specs.Disks.{Torn, spliced}
use Rattle.pol_texts.specs.Stands.{body_of, AreRecords, Begins, Stands, StandsWithAllOrNone}
use Rattle.pol_texts.specs.Settled.{AreCounted, IsGroup, group_body, opened_records}

-- records and one more behind them
pub records-push : (bytes : List ℕ) (texts : List (List ℕ)) (gate : ℕ) (text : List ℕ) → AreRecords bytes texts →
    gate ≢ 0 → length text < 2 ^ 64 → AreRecords (bytes ++ gate ∷ body_of text) (texts ++ text ∷ [])
records-push bytes [] gate text none open_gate counted = (
  [],
  record {
    gate = gate;
    open_gate = open_gate;
    counted = counted;
    is =
        ap (λ (l : List ℕ). l ++ gate ∷ body_of text) none
        ∙ ap (λ (l : List ℕ). gate ∷ l) (sym (append-nil (body_of text)));
  },
  refl,
)
records-push bytes (t ∷ ts) gate text are open_gate counted = (
  are.0 ++ gate ∷ body_of text,
  record {
    gate = are.1.gate;
    open_gate = are.1.open_gate;
    counted = are.1.counted;
    is =
        ap (λ (l : List ℕ). l ++ gate ∷ body_of text) are.1.is
        ∙ ap (λ (l : List ℕ). are.1.gate ∷ l) (append_assoc (body_of t) are.0 (gate ∷ body_of text));
  },
  records-push are.0 ts gate text are.2 open_gate counted,
)

-- records behind records
pub records-append : (bytes more : List ℕ) (texts group : List (List ℕ)) → AreRecords bytes texts →
    AreRecords more group → AreRecords (bytes ++ more) (texts ++ group)
records-append bytes more [] group none are = subst (λ (l : List ℕ). AreRecords (l ++ more) group) (sym none) are
records-append bytes more (t ∷ ts) group first are = (
  first.0 ++ more,
  record {
    gate = first.1.gate;
    open_gate = first.1.open_gate;
    counted = first.1.counted;
    is =
        ap (λ (l : List ℕ). l ++ more) first.1.is
        ∙ ap (λ (l : List ℕ). first.1.gate ∷ l) (append_assoc (body_of t) first.0 more);
  },
  records-append first.0 more ts group first.2 are,
)

-- records behind gates of 1 are records
pub opened_are : (texts : List (List ℕ)) → AreCounted texts → AreRecords (opened_records texts) texts
opened_are [] counted = refl
opened_are (t ∷ ts) counted = (
  opened_records ts,
  record { gate = 1; open_gate = λ e. omega arith; counted = counted.0; is = refl },
  opened_are ts counted.1,
)

-- a group's body behind an open gate is its records
pub group_opens : (group : List (List ℕ)) → 0 < length group → AreCounted group → (gate : ℕ) → gate ≢ 0 →
    AreRecords (gate ∷ group_body group) group
group_opens [] some counted gate open_gate = absurd (omega (arith, some))
group_opens (t ∷ ts) some counted gate open_gate = (
  opened_records ts,
  record { gate = gate; open_gate = open_gate; counted = counted.0; is = refl },
  opened_are ts counted.1,
)

module _ (records behind : List ℕ) (texts : List (List ℕ)) (are : AreRecords records texts) (end : ℕ)
    (ends : end ≡ length records) (group : List (List ℕ)) (written : List ℕ) (is_group : IsGroup group written)
  where
    -- the bytes with the body behind the closed gate
    abbrev pub staged : List ℕ → List ℕ
    staged tail = records ++ 0 ∷ (group_body group ++ 0 ∷ tail)

    -- what stands behind what the first write writes
    abbrev pub tail_of : List ℕ
    tail_of = drop (end + 1 + length written) (records ++ 0 ∷ behind)

    -- the gate stands at the end
    gate_len : length (records ++ 0 ∷ []) ≡ end + 1
    gate_len = omega (arith, ends, length-append records (0 ∷ []))

    -- up to it the bytes are the records and the closed gate
    take_gate : (tail : List ℕ) → take (end + 1) (records ++ 0 ∷ tail) ≡ records ++ 0 ∷ []
    take_gate tail =
        ap (λ (l : List ℕ). take (end + 1) l) (sym (append_assoc records (0 ∷ []) tail))
        ∙ take_at (records ++ 0 ∷ []) tail (end + 1) gate_len

    -- the closed gate stands in each outcome of the first write
    pub torn_behind : (size : ℕ) (image : List ℕ) → Torn (end + 1) size (records ++ 0 ∷ behind) image →
        Begins image texts
    torn_behind size image torn = record {
      records = records;
      behind = drop (end + 1) image;
      is =
          sym (take-append-drop (end + 1) image)
          ∙ ap (λ (l : List ℕ). l ++ drop (end + 1) image) (torn.before ∙ take_gate behind)
          ∙ append_assoc records (0 ∷ []) (drop (end + 1) image);
      are = are;
    }

    -- the bytes after the first write
    pub written_behind : spliced (end + 1) written (records ++ 0 ∷ behind) ≡ staged tail_of
    written_behind =
        ap (λ (l : List ℕ). l ++ written ++ tail_of) (take_gate behind)
        ∙ append_assoc (records ++ 0 ∷ []) written tail_of
        ∙ append_assoc records (0 ∷ []) (written ++ tail_of)
        ∙ ap (λ (l : List ℕ). records ++ 0 ∷ (l ++ tail_of)) is_group.is
        ∙ ap (λ (l : List ℕ). records ++ 0 ∷ l) (append_assoc (group_body group) (0 ∷ []) tail_of)

    -- the gate lies within them too
    pub length-staged : (tail : List ℕ) → end + 1 ≤ length (staged tail)
    length-staged tail = omega (arith, ends, length-append records (0 ∷ (group_body group ++ 0 ∷ tail)))

    -- in front of it stand the records
    take_front : (tail : List ℕ) → take end (staged tail) ≡ records
    take_front tail = take_at records (0 ∷ (group_body group ++ 0 ∷ tail)) end (sym ends)

    -- and behind it the body
    drop_front : (tail : List ℕ) → drop (end + 1) (staged tail) ≡ group_body group ++ 0 ∷ tail
    drop_front tail =
        ap (λ (l : List ℕ). drop (end + 1) l) (sym (append_assoc records (0 ∷ []) (group_body group ++ 0 ∷ tail)))
        ∙ drop_at (records ++ 0 ∷ []) (group_body group ++ 0 ∷ tail) (end + 1) gate_len

    -- an open gate before the body makes it a record
    abbrev pub opened : (gate : ℕ) (tail image : List ℕ) → gate ≢ 0 →
        image ≡ records ++ gate ∷ (group_body group ++ 0 ∷ tail) → Begins image (texts ++ group)
    opened gate tail image open_gate is = record {
      records = records ++ gate ∷ group_body group;
      behind = tail;
      is = is ∙ sym (append_assoc records (gate ∷ group_body group) (0 ∷ tail));
      are = records-append records (gate ∷ group_body group) texts group are
          (group_opens group is_group.some is_group.counted gate open_gate);
    }

    -- the body stands whole in each outcome of the second write
    pub torn_gate : (tail image : List ℕ) → Torn end 1 (staged tail) image → StandsWithAllOrNone texts group image
    torn_gate tail image torn =
        let gate = get_or image end 0 in
        let rest : drop end image ≡ gate ∷ (group_body group ++ 0 ∷ tail) =
        drop_more image end 0 (omega (arith, torn.no_shorter, length-staged tail))
        ∙ ap (λ (l : List ℕ). gate ∷ l) (torn.after ∙ drop_front tail) in
        let whole : image ≡ records ++ gate ∷ (group_body group ++ 0 ∷ tail) =
        sym (take-append-drop end image) ∙ ap (λ (l : List ℕ). l ++ drop end image) (torn.before ∙ take_front tail)
        ∙ ap (λ (l : List ℕ). records ++ l) rest in
        ⊎_elim
        (λ closed. inl (inr record {
          records = records;
          behind = group_body group ++ 0 ∷ tail;
          is = whole
              ∙ ap (λ (k : ℕ). records ++ k ∷ (group_body group ++ 0 ∷ tail)) closed.1;
          are = are;
        }))
        (λ open_gate. inr (inr (opened gate tail image open_gate.1 whole))) (eqb_tells gate 0)

    -- the bytes after the second write
    pub written_gate : (tail : List ℕ) →
        spliced end (1 ∷ []) (staged tail) ≡ records ++ 1 ∷ (group_body group ++ 0 ∷ tail)
    written_gate tail =
        ap (λ (l : List ℕ). l ++ (1 ∷ []) ++ drop (end + 1) (staged tail)) (take_front tail)
        ∙ ap (λ (l : List ℕ). records ++ (1 ∷ []) ++ l) (drop_front tail)
        ∙ append_assoc records (1 ∷ []) (group_body group ++ 0 ∷ tail)

    -- where the next gate stands
    pub length-opened : length (records ++ 1 ∷ group_body group) ≡ end + length written
    length-opened =
        omega (
          arith,
          ends,
          ap length is_group.is,
          length-append records (1 ∷ group_body group),
          length-append (group_body group) (0 ∷ []),
        )

-- a disk of at most one byte stands for nothing, whatever a write of one byte at its start leaves
pub torn_short : (bytes image : List ℕ) → length bytes ≤ 1 → Torn 0 1 bytes image → Stands image []
torn_short bytes image short torn = inl (omega (arith, short, torn.no_longer), refl)
