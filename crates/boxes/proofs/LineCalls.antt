-- The calls of the line link. Assumes nothing.
use Rattle.std.proofs.Common.{◌≡◌, ℕ, ◌+◌, ◌-◌, ◌*◌, ◌<◌, ◌≤◌, Bool, true, false, if◌then◌else◌, ltb, List, [], ◌∷◌, ◌++◌, length, get_or, take, drop, Some, None, Option, is_none, Ok, sym, refl, ap, ◌∙◌, subst, mul_comm, arith, lit<}
use Rattle.std.proofs.lemmas.Nat.{mul-le, mul-add-lt, div-mul-add, mod-mul-add}
use Rattle.std.proofs.lemmas.List.{append-nil, length-take-le, take-take, get_or-take, get_or-drop, drop-take, drop-drop}
use Rattle.std.proofs.lemmas.Bool.Decides.{nat_tests}
use Rattle.link.specs.Model.{LinkModel, BoxState, Empty, Holds, is_empty, is_pair, changed, put, vacant, Allowed}
use Rattle.boxes.specs.LineLaws.{allowed, entry_words}
use Rattle.boxes.specs.Sizes.{suffices, started}
use Rattle.boxes.specs.LineState.{used_words, queue, line_link_model}
use Rattle.boxes.specs.declared.line.LineLink.{LineLink}
use Rattle.link.specs.Calls.{is_length, filled_with, Send, Read, Clear}
use Rattle.boxes.specs.Lines.{Entry, box_number, spelled, entries, lookup, place, removed, is_sound, is_good, Spelt, Good, line_model, line_words, Queued, Dequeued}
use lib.Seq.{paste}
use borrow.Rule.Slice.PartMut.{put_mid}
use Rattle.boxes.proofs.Places.{added, closed}
use Rattle.link.proofs.Links as links
use Rattle.link.proofs.Links.{same_link}
use Rattle.link.specs.WordLaws.{cons_words, append_words, take_words, drop_words}
use Rattle.tile.specs.Words.{AreWords}
use Rattle.boxes.proofs.Lines.{entries_of, lookup_empty, spelt_of, good_of, spelled_append, lookup_add, good_add, good_front, lookup_removed-other, lookup-removed, good_removed, room_for, Found, missing, found}

-- The numbers of the boxes.
column : (n from to : ℕ) → is_pair n from to ≡ true → (from < n) × ((if ltb to from then to else to - 1) < n - 1)
column n from to pair = grind (arith, nat_tests)

pub number-below : (n from to : ℕ) → is_pair n from to ≡ true → box_number n from to < n * (n - 1)
number-below n from to pair =
    let c = column n from to pair in
    omega (arith, mul-add-lt from (n - 1) (if ltb to from then to else to - 1) n c.0 c.1, mul_comm n (n - 1))

pub number-apart : (n i j i' j' : ℕ) → is_pair n i j ≡ true → is_pair n i' j' ≡ true → box_number n i j ≡ box_number n i' j' → (i ≡ i') × (j ≡ j')
number-apart n i j i' j' p q e =
    let c = column n i j p in
    let c' = column n i' j' q in
    let d = div-mul-add i (n - 1) (if ltb j i then j else j - 1) c.1 in
    let d' = div-mul-add i' (n - 1) (if ltb j' i' then j' else j' - 1) c'.1 in
    let m = mod-mul-add i (n - 1) (if ltb j i then j else j - 1) c.1 in
    let m' = mod-mul-add i' (n - 1) (if ltb j' i' then j' else j' - 1) c'.1 in
    let row : i ≡ i' = cc in
    let col : (if ltb j i then j else j - 1) ≡ (if ltb j' i' then j' else j' - 1) = cc in
    (row, grind (arith, nat_tests))

-- a change of the entry of one box
line_put : (n l from to : ℕ) (ws ws' : List ℕ) (s : BoxState) → is_pair n from to ≡ true → ((c : ℕ) → (box_number n from to ≡ c → ⊥) → lookup c (entries ws') ≡ lookup c (entries ws)) → lookup (box_number n from to) (entries ws') ≡ s → line_model n l ws' ≡ put (line_model n l ws) from to s
line_put n l from to ws ws' s pair others here = same_link _ _ refl refl (λ i j. at i j)
  where
    at : (i j : ℕ) → (line_model n l ws').boxes i j ≡ changed (line_model n l ws).boxes from to s i j
    at i j =
        let o = others (box_number n i j) in
        let a = number-apart n from to i j pair in
        grind (arith, nat_tests)

-- what the words of a line keep
pub record Kept (n l : ℕ) (ws : List ℕ) : Type 0 where
  pub spelt : Spelt ws
  pub good : Good n l ws
  pub fits : AreWords ws

kept_of : (n l : ℕ) (ws : List ℕ) (es : List Entry) → ws ≡ spelled es → is_good (n * (n - 1)) l es ≡ true → AreWords ws → Kept n l ws
kept_of n l ws es e g h = record { spelt = spelt_of ws es e; good = good_of ws es e (n * (n - 1)) l g; fits = h }

pub none_kept : (n l : ℕ) → Kept n l []
none_kept n l = kept_of n l [] [] refl refl (λ k. lit< tt)

pub line_vacant : (n l : ℕ) → line_model n l [] ≡ vacant n l
line_vacant n l = same_link _ _ refl refl (λ i j. at i j)
  where
    at : (i j : ℕ) → (line_model n l []).boxes i j ≡ Empty
    at i j = let e = ap (lookup (box_number n i j)) (entries_of [] [] refl) in grind (arith, nat_tests)

-- the line as it starts
pub line_started : (ranks longest brought n l : ℕ) → n ≡ (if suffices ranks longest (line_words ranks longest) brought then ranks else 0) → l ≡ (if suffices ranks longest (line_words ranks longest) brought then longest else 0) → line_model n l [] ≡ started ranks longest (line_words ranks longest) brought
line_started ranks longest brought n l p q = line_vacant n l ∙ by (suffices ranks longest (line_words ranks longest) brought) p q
  where
    by : (t : Bool) → n ≡ (if t then ranks else 0) → l ≡ (if t then longest else 0) → vacant n l ≡ (if t then vacant ranks longest else vacant 0 0)
    by true p q = rw (p, q)
    by false p q = rw (p, q)

-- The entry of a box that was found.
module _ (s : LineLink) (b at : ℕ) (is : Some at ≡ place b (queue s)) where
  pub there : Found b (used_words s) at
  there = found (used_words s) b at s.spelt is

  size_is : get_or s.words.now (at + 1) 0 ≡ get_or (used_words s) (at + 1) 0
  size_is = let f = there in sym (get_or-take s.used s.words.now (at + 1) 0 (omega (arith, f.within, length-take-le s.used s.words.now s.within)))

  -- the entry ends within the used words
  pub next-within : at + (2 + get_or s.words.now (at + 1) 0) ≤ s.used
  next-within = let f = there in omega (arith, f.size, f.within, length-take-le s.used s.words.now s.within, size_is)

-- The calls on a pair.
module _ (s : LineLink) (from to : ℕ) (pair : is_pair s.sizes.ranks from to ≡ true) where
  abbrev n : ℕ
  n = s.sizes.ranks

  abbrev l : ℕ
  l = s.sizes.longest

  abbrev used : ℕ
  used = s.used

  abbrev items : List ℕ
  items = s.words.now

  abbrev ws : List ℕ
  ws = used_words s

  abbrev b : ℕ
  b = box_number n from to

  abbrev m : LinkModel
  m = line_link_model s

  len : length ws ≡ used
  len = length-take-le used items s.within

  pub box : m.boxes from to ≡ lookup b (queue s)
  box = rw pair

  -- the box is empty where no entry of it was found
  pub vacancy : (o : Option ℕ) → o ≡ place b (queue s) → is_empty (m.boxes from to) ≡ is_none o
  vacancy None is = ap is_empty (box ∙ missing ws b is)
  vacancy (Some at) is = ap is_empty (box ∙ (there s b at is).parts.held)

  -- where no entry of the box was found
  module _ (none : None ≡ place b (queue s)) where
    gone : lookup b (queue s) ≡ Empty
    gone = missing ws b none

    module _ (words : List ℕ) (fits : is_length l (length words) ≡ true) where
      abbrev sent : Entry
      sent = record { box = b; message = words }

      vacant-box : is_empty (lookup b (queue s)) ≡ true
      vacant-box = ap is_empty gone

      sound : is_sound (n * (n - 1)) l sent ≡ true
      sound = let p = number-below n from to pair in grind (arith, nat_tests)

      -- the memory is never full
      pub send_room : used + (2 + length words) ≤ length items
      send_room = omega (arith, len, s.room, ap length s.spelt, room_for (n * (n - 1)) l (queue s) sent s.good sound vacant-box)

      -- after the entry was written behind the used words
      module _ (number : ℕ) (new rest : List ℕ) (numbered : number ≡ b) (wrote : new ≡ number ∷ length words ∷ words ++ rest) where
        abbrev more : List ℕ
        more = take (used + (2 + length words)) (put_mid used (length items - used) items new)

        grown : more ≡ ws ++ (b ∷ length words ∷ words)
        grown = added items new (b ∷ length words ∷ words) rest used _ _ (rw numbered at wrote) (omega arith) s.within

        longer : more ≡ spelled (queue s ++ sent ∷ [])
        longer =
            grown ∙ ap (λ t. t ++ (b ∷ length words ∷ words)) s.spelt
            ∙ ap (λ t. spelled (queue s) ++ (b ∷ length words ∷ t)) (sym (append-nil words))
            ∙ sym (spelled_append (queue s) (sent ∷ []))

        pub send_kept : AreWords words → Kept n l more
        send_kept h =
            let few = s.few in
            let below = number-below n from to pair in
            let most = mul-le n (n - 1) 32 32 few (omega arith) in
            let short : length words ≤ l = grind (arith, nat_tests) in
            let head = cons_words b (length words ∷ words) (omega arith) (cons_words (length words) words (omega (arith, s.short)) h) in
            kept_of n l more (queue s ++ sent ∷ []) longer
            (good_add (n * (n - 1)) l (queue s) sent s.good sound vacant-box)
            (rw grown (append_words ws (b ∷ length words ∷ words) s.fits head))

        entries-longer : entries more ≡ queue s ++ sent ∷ []
        entries-longer = entries_of more (queue s ++ sent ∷ []) longer

        empty : is_empty (m.boxes from to) ≡ true
        empty = vacancy None none

        pub send_done : Send m (line_model n l more) from to words (Ok tt)
        send_done =
            let v = vacant-box in
            let e = entries-longer in
            let others : (c : ℕ) → (b ≡ c → ⊥) → lookup c (queue s ++ sent ∷ []) ≡ lookup c (queue s) = λ c ne. let a = lookup_add c (queue s) sent in let i = lookup_empty c (queue s) in grind (arith, nat_tests) in
            let here : lookup b (queue s ++ sent ∷ []) ≡ Holds words = let a = lookup_add b (queue s) sent in grind (arith, nat_tests) in
            let p = line_put n l from to ws more (Holds words) pair (λ c ne. ap (lookup c) e ∙ others c ne) (ap (lookup b) e ∙ here) in
            links.send_done m from to pair words fits (line_model n l more) empty p

        pub send_order : Queued m from to words (queue s) (entries more)
        send_order = let g = links.no_send_fault m from to pair (length words) fits empty in rw g entries-longer

  -- where the entry of the box was found
  module _ (at : ℕ) (is : Some at ≡ place b (queue s)) where
    entry : Found b ws at
    entry = there s b at is

    held : m.boxes from to ≡ Holds entry.parts.entry.message
    held = box ∙ entry.parts.held

    taken : is_empty (m.boxes from to) ≡ false
    taken = ap is_empty held

    start : take at items ≡ take at ws
    start = sym (take-take at used items (omega (arith, next-within s b at is)))

    -- the line that ends before the entry
    pub short_kept : Kept n l (take at items)
    short_kept =
        let p = entry.parts in
        let all : is_good (n * (n - 1)) l (p.before ++ p.entry ∷ p.behind) ≡ true = ap (is_good (n * (n - 1)) l) (sym p.all) ∙ s.good in
        kept_of n l (take at items) p.before (start ∙ entry.front)
        (good_front (n * (n - 1)) l p.before (p.entry ∷ p.behind) all)
        (subst AreWords (sym start) (take_words at ws s.fits))

    -- after the words behind the entry were moved down
    module _ (next : ℕ) (moved : List ℕ) (behind : next ≡ at + (2 + get_or items (at + 1) 0)) (copied : moved ≡ paste items at (drop next items) (used - next)) where
      abbrev less : List ℕ
      less = take (at + (used - next)) moved

      cut : less ≡ take at items ++ drop (at + (2 + get_or items (at + 1) 0)) ws
      cut =
          let w = next-within s b at is in
          closed items moved used at next (omega arith) (omega arith) s.within copied ∙ ap (λ k. take at items ++ drop k ws) behind

      left : less ≡ spelled (removed b (queue s))
      left =
          let f = entry in
          let p = f.parts in
          cut ∙ ap (λ t. t ++ drop (at + (2 + get_or items (at + 1) 0)) ws) (start ∙ f.front)
          ∙ ap (λ k. spelled p.before ++ drop (at + (2 + k)) ws) (size_is s b at is ∙ f.size)
          ∙ ap (λ t. spelled p.before ++ t) f.rest
          ∙ sym (spelled_append p.before p.behind) ∙ ap spelled (sym p.left)

      pub clear_kept : Kept n l less
      clear_kept =
          kept_of n l less (removed b (queue s)) left (good_removed (n * (n - 1)) l b (queue s) s.good)
          (rw cut (append_words (take at items) _ short_kept.fits (drop_words (at + (2 + get_or items (at + 1) 0)) ws s.fits)))

      entries-left : entries less ≡ removed b (queue s)
      entries-left = entries_of less (removed b (queue s)) left

      pub clear_done : Clear m (line_model n l less) from to (Ok tt)
      clear_done =
          let e = entries-left in
          let p = line_put n l from to ws less Empty pair
          (λ c ne. ap (lookup c) e ∙ lookup_removed-other b c (queue s) ne)
          (ap (lookup b) e ∙ lookup-removed (n * (n - 1)) l b (queue s) s.good) in
          links.clear_done m from to pair (line_model n l less) taken p

      pub clear_order : Dequeued m from to (queue s) (entries less)
      clear_order = let g = links.no_clear_fault m from to pair taken in rw g entries-left

    -- Where a message is read from the words behind the number of its box.
    module _ (area : List ℕ) (roomy : l ≤ length area) (part : List ℕ) (tail : part ≡ drop (at + 1) items) where
      word : get_or part 0 0 ≡ get_or items (at + 1) 0
      word = ap (λ t. get_or t 0 0) tail ∙ get_or-drop (at + 1) items 0 0 ∙ ap (λ i. get_or items i 0) (omega arith)

      -- a message that waits is no longer than the longest
      pub size-short : get_or part 0 0 ≤ length area
      size-short =
          let f = entry in
          let z : Allowed l (Holds f.parts.entry.message) = rw f.parts.held at (allowed (n * (n - 1)) l b (queue s) s.good (entry_words ws s.fits b)) in
          omega (arith, f.size, size_is s b at is, word, z.1)

      pub read_done : (area' : List ℕ) (k : ℕ) → k ≡ get_or part 0 0 → area' ≡ take k (drop 1 part) ++ drop k area → Read m m from to area area' (Ok k)
      read_done area' k k-is filled =
          let f = entry in
          let mes = f.parts.entry.message in
          let rest : drop 1 part ≡ drop (at + 2) items = ap (drop 1) tail ∙ drop-drop 1 (at + 1) items ∙ ap (λ i. drop i items) (omega arith) in
          let size : k ≡ length mes = k-is ∙ word ∙ size_is s b at is ∙ f.size in
          let words : take k (drop 1 part) ≡ mes = ap (take k) rest ∙ within-used k (omega (arith, f.within, len, size)) ∙ ap (λ i. take i (drop (at + 2) ws)) size ∙ f.words in
          let all : area' ≡ filled_with mes area = filled ∙ ap (λ t. t ++ drop k area) words ∙ ap (λ i. mes ++ drop i area) size in
          let done = links.read_done m from to pair area roomy mes held in
          rw (all, size) done
        where
          -- the words of a message lie within the used ones
          within-used : (k : ℕ) → at + 2 + k ≤ used → take k (drop (at + 2) items) ≡ take k (drop (at + 2) (take used items))
          within-used k le = sym (drop-take (at + 2) k items) ∙ ap (drop (at + 2)) (sym (take-take (at + 2 + k) used items le)) ∙ drop-take (at + 2) k (take used items)
