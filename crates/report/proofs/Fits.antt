-- A listing is never longer than 65,536 bytes, so a buffer of that length takes it whole: at most 127 lines of at most
-- 101 bytes, then at most 512 of at most 55. Assumes nothing.
use mathlib.Core.Path.{◌≡◌, refl}
use mathlib.Core.List.{List, [], ◌∷◌, ◌++◌, map}
use Prim.Native.Nat.{ℕ, zero, suc, ◌+◌, ◌*◌, ◌/◌, ◌%◌, ◌≤◌}
use native.Mathlib.Omega.{arith}
use native.Mathlib.Nat.{min-le_left, mul-suc}
use lib.Dec.{leb, ltb, eqb}
use lib.ListN.{length, take, drop, get_or, length-append, length-map, length-take}
use Rattle.rules.specs.Lists.{any}
use Rattle.rules.specs.Bytes.{up_to_zero, block}
use Rattle.rules.specs.Answers.{Answer, refused, given, number_of}
use Rattle.rules.specs.Table.{entry, entries_from, entries, name, no_entry, is_slot, slots, starts}
use Rattle.rules.specs.Pointers.{places, judged, is_dead}
use Rattle.rules.specs.Copies.{view, order_by, boot_order}
use Rattle.rules.specs.Readers.{slot_info, slot_name, name_in, slot_entry, slot_there, table_part}
use Rattle.rules.specs.declared.Setting.{Setting}
use Rattle.rules.specs.declared.View.{View}
use Rattle.rules.specs.declared.SlotInfo.{SlotInfo}
use Rattle.rules.specs.declared.Place.{Place}
use Rattle.rules.specs.declared.Place.TheVariants.{Erased, Spent, Live, PartWritten, Stray}
use Rattle.rules.proofs.Lists.Tests.{by_cases}
use Rattle.rules.proofs.Lists.Combinators.{kept_no_more}
use Rattle.rules.proofs.Table.Standing.{length-entries}
use Rattle.rules.proofs.Pointers.PointerHeader.{places_fit}
use Rattle.walks.specs.Entries.{most_entries}
use Rattle.places.proofs.Values.{length_places}
use Rattle.boot_order.proofs.BootOrder.{order_fits}
use Rattle.views.specs.Located.{Located}
use Rattle.views.proofs.Opening.{located}
use Rattle.text.specs.Put.{Put}
use Rattle.text.proofs.Puts.{put_whole}
use Rattle.text.specs.Shown.{digits, decimal, shown}
use Rattle.dead_places.specs.DeadLines.{numbered, places_header, kind_word, place_line, judged_line, dead_part}
use Rattle.report.specs.Listing.{listing_setting, header, refusal, told, info_text, slot_line, parts, listing_by, listing_for, listing}

-- ---- the parts of a line

digits_short : (n v : ℕ) → length (digits n v) ≤ n
unfolding digits
digits_short zero v = omega arith
digits_short (suc n) v = by_cases (ltb v 10)
    (λ b. rw b (omega arith))
    (λ b. rw b (omega (arith, length-append (digits n (v / 10)) ((0x30 + v % 10) ∷ []), digits_short n (v / 10))))

decimal_short : (v : ℕ) → length (decimal v) ≤ 20
unfolding decimal
decimal_short v = digits_short 20 v

up_to_zero_short : (bs : List ℕ) → length (up_to_zero bs) ≤ length bs
unfolding up_to_zero
up_to_zero_short [] = omega arith
up_to_zero_short (b ∷ bs) = by_cases (eqb b 0)
    (λ z. rw z (omega arith))
    (λ z. rw z (omega (arith, up_to_zero_short bs)))

entries_name_short : (n : ℕ) (bs : List ℕ) (i : ℕ) → length (name (get_or (entries_from n bs) i no_entry)) ≤ 16
unfolding entries_from name no_entry up_to_zero entry
entries_name_short zero bs i = omega arith
entries_name_short (suc n) bs zero = omega (arith, up_to_zero_short (take 16 bs), length-take 16 bs, min-le_left 16 (length bs))
entries_name_short (suc n) bs (suc i) = entries_name_short n (drop 32 bs) i

slot_name_short : (s : Setting) (img : List ℕ) (k : ℕ) → length (slot_name s img k) ≤ 16
unfolding slot_name name_in slot_entry entries
slot_name_short s img k = by_cases (slot_there (entries (table_part s img)) k)
    (λ b. rw b (entries_name_short _ _ _))
    (λ b. rw b (omega arith))

told_short : (a : Answer SlotInfo) → length (told a) ≤ 43
unfolding told
told_short (refused why) = omega arith
told_short (given f) =
    let line = length-append (decimal f.start) (0x20 ∷ decimal f.size ++ (0x0A ∷ [])) in
    let rest = length-append (decimal f.size) (0x0A ∷ []) in
    omega (arith, line, rest, decimal_short f.start, decimal_short f.size)

slot_line_short : (s : Setting) (img : List ℕ) (rank k : ℕ) → length (slot_line s img rank k) ≤ 101
unfolding slot_line info_text
slot_line_short s img rank k =
    let shown_name = map shown (slot_name s img k) in
    let rest = told (slot_info s img k) in
    omega (
      arith,
      length-append (decimal rank) (0x20 ∷ decimal k ++ (0x20 ∷ shown_name ++ rest)),
      length-append (decimal k) (0x20 ∷ shown_name ++ rest),
      length-append shown_name rest,
      length-map (slot_name s img k) shown,
      decimal_short rank,
      decimal_short k,
      slot_name_short s img k,
      told_short (slot_info s img k),
    )

kind_word_short : (j : Place) → length (kind_word j) ≤ 12
unfolding kind_word
kind_word_short Erased = omega arith
kind_word_short Spent = omega arith
kind_word_short (Live s) = omega arith
kind_word_short PartWritten = omega arith
kind_word_short (Stray v) = omega arith

place_line_short : (k : ℕ) (j : Place) (v : ℕ) → length (place_line k j v) ≤ 55
unfolding place_line
place_line_short k j v = by_cases (is_dead j)
    (λ t. rw t (omega (
      arith,
      length-append (decimal k) (0x20 ∷ kind_word j ++ (0x20 ∷ decimal v ++ (0x0A ∷ []))),
      length-append (kind_word j) (0x20 ∷ decimal v ++ (0x0A ∷ [])),
      length-append (decimal v) (0x0A ∷ []),
      decimal_short k,
      kind_word_short j,
      decimal_short v,
    )))
    (λ t. rw t (omega arith))

judged_line_short : (starts : List ℕ) (k v : ℕ) → length (judged_line starts k v) ≤ 55
unfolding judged_line
judged_line_short starts k v = place_line_short k (judged starts v) v

-- ---- the two parts

numbered_short : (text : ℕ → ℕ → List ℕ) (most : ℕ) → ((k x : ℕ) → length (text k x) ≤ most)
    → (n : ℕ) (xs : List ℕ)
    → length (numbered text n xs) ≤ most * length xs
unfolding numbered
numbered_short text most h n [] = omega arith
numbered_short text most h n (x ∷ xs) =
    omega (
      arith,
      length-append (text n x) (numbered text (suc n) xs),
      h n x,
      numbered_short text most h (suc n) xs,
      mul-suc most (length xs),
    )

-- no more slots than entries
pub order_few : {img : List ℕ} {v : View} → Located img v → length (boot_order img v) ≤ most_entries
unfolding boot_order order_by starts slots
order_few {img} {v} l =
    let t = block img v.table in
    omega (
      arith,
      order_fits (entries t) (places (block img v.pointers)),
      kept_no_more is_slot (entries t),
      length-entries t,
      l.count_right,
    )

places_few : {img : List ℕ} {v : View} → Located img v → length (places (block img v.pointers)) ≤ 512
places_few {img} {v} l =
    let p = block img v.pointers in
    omega (arith, length_places p, (places_fit p l.stand).in_block)

dead_part_short : (starts vs : List ℕ) → length vs ≤ 512 → length (dead_part starts vs) ≤ 18 + 55 * 512
unfolding dead_part places_header
dead_part_short starts vs few = by_cases (any (λ v. is_dead (judged starts v)) vs)
    (λ t. rw t (omega (
      arith,
      length-append places_header (numbered (judged_line starts) 0 vs),
      numbered_short (judged_line starts) 55 (judged_line_short starts) 0 vs,
    )))
    (λ t. rw t (omega arith))

parts_short : (s : Setting) (img : List ℕ) (v : View) → Located img v → length (parts s img v) ≤ 65536
unfolding parts header
parts_short s img v l =
    let slots = numbered (slot_line s img) 1 (boot_order img v) in
    let dead = dead_part (starts (block img v.table)) (places (block img v.pointers)) in
    omega (
      arith,
      length-append header (slots ++ dead),
      length-append slots dead,
      numbered_short (slot_line s img) 101 (slot_line_short s img) 1 (boot_order img v),
      order_few l,
      dead_part_short (starts (block img v.table)) (places (block img v.pointers)) (places_few l),
    )

-- ---- the listing

refusal_short : (n : ℕ) → length (refusal n) ≤ 65536
unfolding refusal
refusal_short n = omega (arith, length-append (decimal n) (0x0A ∷ []), decimal_short n)

listing_by_short : (s : Setting) (img : List ℕ) (a : Answer View) → view s img ≡ a → length (listing_by s img a) ≤ 65536
unfolding listing_by
listing_by_short s img (refused why) e = refusal_short (number_of why)
listing_by_short s img (given v) e = parts_short s img v (located s img v e)

-- for every setting and every image
pub listing_for_short : (s : Setting) (img : List ℕ) → length (listing_for s img) ≤ 65536
unfolding listing_for
listing_for_short s img = listing_by_short s img (view s img) refl

pub listing_short : (img : List ℕ) → length (listing img) ≤ 65536
unfolding listing
listing_short img = by_cases (leb (length img) 65536)
    (λ b. rw b (listing_for_short listing_setting img))
    (λ b. rw b (refusal_short 1))

-- what was put into a buffer of that length is the whole listing
pub listing_for_whole : (s : Setting) (img : List ℕ) {out after : List ℕ} {end : ℕ}
    → 65536 ≤ length out
    → Put out 0 (listing_for s img) after end
    → take end after ≡ listing_for s img
listing_for_whole s img h p = put_whole (omega (arith, listing_for_short s img)) p

-- what the listing program prints is the whole listing
pub listing_whole : (img : List ℕ) {out after : List ℕ} {end : ℕ}
    → 65536 ≤ length out
    → Put out 0 (listing img) after end
    → take end after ≡ listing img
listing_whole img h p = put_whole (omega (arith, listing_short img)) p
