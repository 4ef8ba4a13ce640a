-- Texts put one after the other are one text put. Assumes nothing.
use mathlib.Core.Path.{◌≡◌, refl, sym, ap, ◌∙◌}
use mathlib.Core.List.{List, [], ◌∷◌, ◌++◌}
use Prim.Native.Nat.{ℕ, suc, ◌+◌, min, max, ◌≤◌, ◌<◌}
use native.Mathlib.Omega.{arith}
use native.Mathlib.Numerals.{add-one}
use lib.Dec.{leb}
use lib.ListN.{length, take, drop, get_or, set, length-append}
use lib.Seq.{sets, length-sets, set_out, take-suc, take_all, take_at, sets-eq, length-take-le}
use borrow.Author.Tests.{leb-true, leb-false}
use Rattle.rules.proofs.Lists.Tests.{by_cases}
use Rattle.text.specs.Put.{Put}

pub put_nothing : (out : List ℕ) (at : ℕ) → Put out at [] out at
put_nothing out at = record { stored = refl; ended = omega arith }

pub keeps_length : {out after text : List ℕ} {at end : ℕ} → Put out at text after end → length after ≡ length out
keeps_length {out} {after} {text} {at} p = ap length p.stored ∙ length-sets out at text

-- a text put from the front on ends inside the buffer
pub put_inside : {out after text : List ℕ} {end : ℕ}
    → Put out 0 text after end
    → (end ≤ length after) × (end ≡ length (take end after))
put_inside {out} {after} {text} {end} p =
    let inside : end ≤ length after = omega (arith, p.ended, keeps_length p) in
    (inside, sym (length-take-le end after inside))

-- a text that fits, put from the front on, is what stands before its end
pub put_whole : {out after text : List ℕ} {end : ℕ}
    → length text ≤ length out
    → Put out 0 text after end
    → take end after ≡ text
put_whole {out} {after} {text} {end} h p =
    ap (take end) (p.stored ∙ sets-eq text out 0 (omega arith))
    ∙ take_at text (drop (0 + length text) out) end (omega (arith, p.ended))

-- ---- one after the other

-- a text put past the end changes nothing
sets_past : (out : List ℕ) (at : ℕ) (text : List ℕ) → length out ≤ at → sets out at text ≡ out
sets_past out at [] h = refl
sets_past out at (b ∷ bs) h = rw (set_out out at b h) (sets_past out (suc at) bs (omega arith))

sets_append : (out : List ℕ) (at : ℕ) (t u : List ℕ) → sets out at (t ++ u) ≡ sets (sets out at t) (at + length t) u
sets_append out at [] u = ap (λ (n : ℕ). sets out n u) (omega arith)
sets_append out at (b ∷ bs) u =
    sets_append (set out at b) (suc at) bs u
    ∙ ap (λ (n : ℕ). sets (sets (set out at b) (suc at) bs) n u) (omega arith)

-- it does not matter by how much an index is past the end
sets_end : (out : List ℕ) (at end past : ℕ) (text : List ℕ)
    → at ≤ past
    → end ≡ max at (min past (length out))
    → sets out end text ≡ sets out past text
sets_end out at end past text h e = by_cases (leb past (length out))
    (λ b. ap (λ (n : ℕ). sets out n text) (omega (arith, leb-true past (length out) b)))
    (λ b.
    sets_past out end text (omega (arith, leb-false past (length out) b))
    ∙ sym (sets_past out past text (omega (arith, leb-false past (length out) b))))

pub then : {out after last : List ℕ} {at end final : ℕ} {t u : List ℕ}
    → Put out at t after end
    → Put after end u last final
    → Put out at (t ++ u) last final
then {out} {after} {last} {at} {end} {final} {t} {u} p q =
    let same_length = keeps_length p in
    record {
      stored =
          q.stored
          ∙ sets_end after at end (at + length t) u (omega arith) (omega (arith, p.ended))
          ∙ ap (λ (l : List ℕ). sets l (at + length t) u) p.stored
          ∙ sym (sets_append out at t u);
      ended = omega (arith, p.ended, q.ended, length-append t u);
    }

-- one element of a text put after those before it
pub put_more : {out after last : List ℕ} {at end final : ℕ} (text : List ℕ) (i d : ℕ)
    → i < length text
    → Put out at (take i text) after end
    → Put after end (get_or text i d ∷ []) last final
    → Put out at (take (i + 1) text) last final
put_more text i d h p q = rw (add-one, take-suc text i d) (then p q)

pub put_all : {out after : List ℕ} {at end : ℕ} (text : List ℕ) (i : ℕ)
    → length text ≤ i
    → Put out at (take i text) after end
    → Put out at text after end
put_all text i h p = rw take_all at p
