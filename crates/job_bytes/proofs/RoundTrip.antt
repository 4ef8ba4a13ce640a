-- The theorem of this crate: the bytes of a job are decoded to that job. Assumes nothing.
use mathlib.Core.Path.{◌≡◌, refl}
use mathlib.Core.Bool.{true}
use mathlib.Core.List.{List, ◌++◌, append_assoc}
use Prim.Native.Nat.{ℕ, ◌*◌, ◌^◌, ◌<◌}
use native.Mathlib.Omega.{arith}
use lib.Dec.{leb}
use lib.ListN.{length, take, drop, length-append}
use lib.Seq.{take_at, take_all}
use borrow.Author.Tests.{eq-eqb}
use Rattle.rules.specs.Bytes.{block_size, bytes_of, field}
use Rattle.rules.specs.Answers.{given, unless}
use Rattle.rules.proofs.Lists.Words.{length-bytes_of}
use Rattle.jobs.specs.Jobs.{place_room}
use Rattle.job_parts.specs.declared.Kind.{Kind}
use Rattle.job_parts.specs.declared.Kind.TheVariants.{Nothing, Rewrite, Places}
use Rattle.jobs.specs.declared.Job.{Job}
use Rattle.jobs.proofs.Typed.{Typed}
use Rattle.job_bytes.specs.Form.{len_at, granule_at, count_at, done_at, offset_at, first_address_at, second_address_at}
use Rattle.job_bytes.specs.Form.{first_kind_at, second_kind_at, value_at, places_at, first_block_at, second_block_at}
use Rattle.job_bytes.specs.Form.{job_size, kind_number, kind_numbered, sizes_encoded, addresses_encoded, kinds_encoded, numbers_encoded, encoded}
use Rattle.job_bytes.specs.Form.{plan_from, job_from, holds_job, decoded}
use Rattle.job_bytes.proofs.Numbers.{field_read, behind}

-- ---- kinds

kind_read : (k : Kind) → kind_numbered (kind_number k) ≡ k
unfolding kind_number kind_numbered
kind_read Nothing = refl
kind_read Rewrite = refl
kind_read Places = refl

kind_right : (k : Kind) → leb (kind_number k) 2 ≡ true
unfolding kind_number
kind_right Nothing = refl
kind_right Rewrite = refl
kind_right Places = refl

kind_small : (k : Kind) → kind_number k < 256 ^ 2
unfolding kind_number
kind_small Nothing = omega arith
kind_small Rewrite = omega arith
kind_small Places = omega arith

-- ---- the fields one after the other

module _ (j : Job) (t : Typed j) where
  abbrev bs : List ℕ
  bs = encoded j

  abbrev arrays : List ℕ
  arrays = j.value ++ (j.places ++ (j.first ++ j.second))

  abbrev kinds : List ℕ
  kinds = bytes_of 2 (kind_number j.plan.first) ++ (bytes_of 2 (kind_number j.plan.second) ++ arrays)

  abbrev addresses : List ℕ
  addresses = bytes_of 4 j.plan.offset ++ (bytes_of 4 j.plan.at ++ (bytes_of 4 j.plan.after ++ kinds))

  abbrev sizes : List ℕ
  sizes =
      bytes_of 8 j.plan.len
      ++ (bytes_of 8 j.plan.granule ++ (bytes_of 8 j.plan.count ++ (bytes_of 8 j.done ++ addresses)))

  from_0 : encoded j ≡ sizes
  unfolding encoded numbers_encoded sizes_encoded addresses_encoded kinds_encoded
  from_0 = simp append_assoc

  record Sizes : Type 0 where
    len : field len_at 8 bs ≡ j.plan.len
    granule : field granule_at 8 bs ≡ j.plan.granule
    count : field count_at 8 bs ≡ j.plan.count
    done : field done_at 8 bs ≡ j.done
    rest : drop offset_at bs ≡ addresses

  sizes_read : Sizes
  sizes_read =
      let b8 = behind bs len_at 8 (bytes_of 8 j.plan.len) _ from_0 (length-bytes_of 8 j.plan.len) in
      let b16 = behind bs granule_at 8 (bytes_of 8 j.plan.granule) _ b8 (length-bytes_of 8 j.plan.granule) in
      let b24 = behind bs count_at 8 (bytes_of 8 j.plan.count) _ b16 (length-bytes_of 8 j.plan.count) in
      record {
        len = field_read bs len_at 8 j.plan.len _ from_0 t.len;
        granule = field_read bs granule_at 8 j.plan.granule _ b8 t.granule;
        count = field_read bs count_at 8 j.plan.count _ b16 t.count;
        done = field_read bs done_at 8 j.done _ b24 t.done;
        rest = behind bs done_at 8 (bytes_of 8 j.done) _ b24 (length-bytes_of 8 j.done);
      }

  record Addresses : Type 0 where
    offset : field offset_at 4 bs ≡ j.plan.offset
    at : field first_address_at 4 bs ≡ j.plan.at
    after : field second_address_at 4 bs ≡ j.plan.after
    rest : drop first_kind_at bs ≡ kinds

  addresses_read : Addresses
  addresses_read =
      let b32 = sizes_read.rest in
      let b36 = behind bs offset_at 4 (bytes_of 4 j.plan.offset) _ b32 (length-bytes_of 4 j.plan.offset) in
      let b40 = behind bs first_address_at 4 (bytes_of 4 j.plan.at) _ b36 (length-bytes_of 4 j.plan.at) in
      record {
        offset = field_read bs offset_at 4 j.plan.offset _ b32 t.offset;
        at = field_read bs first_address_at 4 j.plan.at _ b36 t.at;
        after = field_read bs second_address_at 4 j.plan.after _ b40 t.after;
        rest = behind bs second_address_at 4 (bytes_of 4 j.plan.after) _ b40 (length-bytes_of 4 j.plan.after);
      }

  record Kinds : Type 0 where
    first : field first_kind_at 2 bs ≡ kind_number j.plan.first
    second : field second_kind_at 2 bs ≡ kind_number j.plan.second
    rest : drop value_at bs ≡ arrays

  kinds_read : Kinds
  kinds_read =
      let one = kind_number j.plan.first in
      let two = kind_number j.plan.second in
      let b44 = addresses_read.rest in
      let b46 = behind bs first_kind_at 2 (bytes_of 2 one) _ b44 (length-bytes_of 2 one) in
      record {
        first = field_read bs first_kind_at 2 one _ b44 (kind_small j.plan.first);
        second = field_read bs second_kind_at 2 two _ b46 (kind_small j.plan.second);
        rest = behind bs second_kind_at 2 (bytes_of 2 two) _ b46 (length-bytes_of 2 two);
      }

  record Arrays : Type 0 where
    value : take 8 (drop value_at bs) ≡ j.value
    places : take (2 * place_room) (drop places_at bs) ≡ j.places
    first : take block_size (drop first_block_at bs) ≡ j.first
    second : take block_size (drop second_block_at bs) ≡ j.second

  arrays_read : Arrays
  arrays_read =
      let b48 = kinds_read.rest in
      let b56 = behind bs value_at 8 j.value _ b48 t.value in
      let b1072 = behind bs places_at 1016 j.places _ b56 t.places in
      let b5168 = behind bs first_block_at 4096 j.first _ b1072 t.first in
      record {
        value = rw b48 (take_at j.value _ 8 t.value);
        places = rw b56 (take_at j.places _ (2 * place_room) t.places);
        first = rw b1072 (take_at j.first _ block_size t.first);
        second = rw b5168 (take_all block_size j.second (omega (arith, t.second)));
      }

  -- ---- together

  job_read : job_from (encoded j) ≡ j
  unfolding job_from plan_from
  job_read =
      let s = sizes_read in
      let a = addresses_read in
      let k = kinds_read in
      let r = arrays_read in
      rw (
        s.len,
        s.granule,
        s.count,
        s.done,
        a.offset,
        a.at,
        a.after,
        k.first,
        k.second,
        kind_read j.plan.first,
        kind_read j.plan.second,
        r.value,
        r.places,
        r.first,
        r.second,
      )

  pub length-encoded : length (encoded j) ≡ job_size
  length-encoded =
      rw from_0
      (simp (length-append, length-bytes_of)
      (omega (arith, t.value, t.places, t.first, t.second)))

  pub decoded-encoded : decoded (encoded j) ≡ given j
  unfolding decoded unless holds_job
  decoded-encoded =
      rw (
        eq-eqb (length (encoded j)) job_size length-encoded,
        kinds_read.first,
        kinds_read.second,
        kind_right j.plan.first,
        kind_right j.plan.second,
        job_read,
      )
