-- The versions of a number, and the keys of what they sent, one at a time.
use Rattle.std.proofs.Common.{◌≡◌, ◌∙◌, ℕ, suc, ◌+◌, ◌<◌, length, get_or, drop, flat_map, add-one, drop-cons, Bool, true, false, if◌then◌else◌, List, [], ◌∷◌, ◌++◌, map, Option, Some, ap, sym, append-nil, append_assoc}
use Rattle.std.specs.FinMap.{get}
use Rattle.std.proofs.lemmas.List.Elements.{All-push}
use Rattle.std.proofs.lemmas.List.{map-append}
use Rattle.model.specs.Content.{BroadcastKey, Content, VersionRow}
use Rattle.settle.specs.Abstraction.{broadcast_key_of}
use Rattle.settle.specs.declared.rows.NumberedRow.{NumberedRow}
use Rattle.report.specs.Life.{AddsSent, AreVersionsOf, IsSent, is_row_of, keys_of, those_below}
use Rattle.report.specs.declared.life.Sent.{Sent}

-- What a store read, by its content before.
pub read_at : {R : Type 0} (read : Content → Option R) (a b : Content) (found row : Option R)
    → found ≡ read a → a ≡ b → found ≡ row → read b ≡ row
read_at read a b found row is same e = sym (ap read same) ∙ sym is ∙ e

abbrev one_of : ℕ → Bool → List ℕ
one_of n b = if b then n ∷ [] else []

not_below : (test : ℕ → Bool) (n : ℕ) → test n ≡ false
    → those_below test (suc n) ≡ those_below test n
not_below test n other = ap (λ b. those_below test n ++ one_of n b) other
    ∙ append-nil (those_below test n)

one_below : (test : ℕ → Bool) (n : ℕ) → test n ≡ true
    → those_below test (suc n) ≡ those_below test n ++ n ∷ []
one_below test n this = ap (λ b. those_below test n ++ one_of n b) this

module _ (c : Content) (number : Option ℕ) (n m : ℕ) (next : m ≡ suc n) where
  abbrev test : ℕ → Bool
  test id = is_row_of number (get c.versions id)

  abbrev id_of : NumberedRow → ℕ
  id_of v = v.id

  -- The row with this id, if there is one, is not the number's.
  pub versions_pass_over : (versions : List NumberedRow) (row : Option VersionRow)
      → get c.versions n ≡ row → is_row_of number row ≡ false
      → AreVersionsOf c number n versions → AreVersionsOf c number m versions
  versions_pass_over versions row found other are = record {
    ids = are.ids ∙ sym (ap (those_below test) next
        ∙ not_below test n (ap (is_row_of number) found ∙ other));
    rows = are.rows;
  }

  -- The row with this id is the number's.
  pub versions_add : (versions : List NumberedRow) (row : VersionRow)
      → get c.versions n ≡ Some row → is_row_of number (Some row) ≡ true
      → AreVersionsOf c number n versions
      → AreVersionsOf c number m (versions ++ record { id = n; row = row } ∷ [])
  versions_add versions row found this are = record {
    ids = map-append id_of versions (record { id = n; row = row } ∷ [])
        ∙ ap (λ ids. ids ++ n ∷ []) are.ids
        ∙ sym (ap (those_below test) next
        ∙ one_below test n (ap (is_row_of number) found ∙ this));
    rows = All-push (λ (v : NumberedRow). get c.versions v.id ≡ Some v.row) versions
        (record { id = n; row = row }) are.rows found;
  }

abbrev key_of_sent : Sent → BroadcastKey
key_of_sent s = broadcast_key_of s.key

module _ (c : Content) where
  -- One broadcast is appended.
  pub sent_one : (old : List Sent) (one : Sent) → IsSent c one
      → AddsSent c (key_of_sent one ∷ []) old (old ++ one ∷ [])
  sent_one old one is = record {
    keys = map-append key_of_sent old (one ∷ []);
    each = λ before. All-push (IsSent c) old one before is;
  }

  pub sent_none : (old : List Sent) → AddsSent c [] old old
  sent_none old = record {
    keys = sym (append-nil (map key_of_sent old));
    each = λ before. before;
  }

  -- Broadcasts are appended after others.
  pub sent_after : (first second : List BroadcastKey) (old mid new : List Sent)
      → AddsSent c first old mid → AddsSent c second mid new → AddsSent c (first ++ second) old new
  sent_after first second old mid new a b = record {
    keys = b.keys ∙ ap (λ ks. ks ++ second) a.keys
        ∙ append_assoc (map key_of_sent old) first second;
    each = λ before. b.each (a.each before);
  }

  -- The broadcasts of the next version are appended.
  pub sent_on : (versions : List NumberedRow) (i : ℕ) (v : NumberedRow) (old new : List Sent)
      → i < length versions → v ≡ get_or versions i v → AddsSent c (keys_of c v) old new
      → map key_of_sent old ++ flat_map (keys_of c) (drop i versions)
      ≡ flat_map (keys_of c) versions
      → map key_of_sent new ++ flat_map (keys_of c) (drop (i + 1) versions)
      ≡ flat_map (keys_of c) versions
  sent_on versions i v old new inside is adds before =
      ap (λ ks. ks ++ flat_map (keys_of c) (drop (i + 1) versions)) adds.keys
      ∙ append_assoc (map key_of_sent old) (keys_of c v)
      (flat_map (keys_of c) (drop (i + 1) versions))
      ∙ ap (λ ks. map key_of_sent old ++ ks)
      (ap (λ w. keys_of c w ++ flat_map (keys_of c) (drop (i + 1) versions)) is
      ∙ ap (λ k. keys_of c (get_or versions i v) ++ flat_map (keys_of c) (drop k versions))
      (add-one i)
      ∙ sym (ap (flat_map (keys_of c)) (drop-cons versions i v inside)))
      ∙ before
