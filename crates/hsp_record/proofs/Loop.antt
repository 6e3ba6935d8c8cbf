-- Reading one after the other, as a loop does.
use Rattle.std.proofs.Common.{◌≡◌, ℕ, zero, suc, ◌-◌, ◌+◌, ◌≤◌, ◌<◌, List, [], ◌∷◌, ◌++◌, Ok, Err, refl, sym, ap, ◌∙◌}
use Rattle.std.proofs.Common.{append_assoc, arith}
use Rattle.std.proofs.lemmas.List.{append-nil}
use Rattle.hsp_record.specs.declared.fault.Stop.{Stop}
use Rattle.hsp_record.specs.declared.fault.ReadError.{ReadError}
use Rattle.hsp_record.specs.declared.fault.ReadError.TheVariants.{Memory, Stopped}
use Rattle.hsp_text.specs.Answers.{◌>>=◌}
use Rattle.hsp_record.specs.Reading.{Read, Reader, FailsAs, times_at}
use Rattle.hsp_record.proofs.Codec.{gave}

-- what was read before, and what is still read
abbrev pub with_front : {A : Type 0} → List A → Read (List A) → Read (List A)
with_front front read = read >>= λ x. gave (front ++ x.0) x.1

-- one element more, put before the rest, is one more behind the front
regroup : {A : Type 0} (front : List A) (n : A) (read : Read (List A))
    → with_front front (read >>= λ x. gave (n ∷ x.0) x.1) ≡ with_front (front ++ n ∷ []) read
regroup {A} front n (Ok x) = ap (λ (ns : List A). gave ns x.1) (simp append_assoc)
regroup front n (Err f) = refl

-- So many are read one after the other, each by what was read before it.
pub record Steps {A : Type 0} (step : List A → Reader A) (many : List A → ℕ → Reader (List A)) : Type 0 where
  pub none : (front : List A) (bytes : List ℕ) → many front zero bytes ≡ gave [] bytes
  pub more : (front : List A) (n : ℕ) (bytes : List ℕ)
      → many front (suc n) bytes
      ≡ (step front bytes >>= λ x. many (front ++ x.0 ∷ []) n x.1 >>= λ others. gave (x.0 ∷ others.0) others.1)

-- reading a number of times is reading once, and then one time less
pub times_steps : {A : Type 0} (read : Reader A) → Steps (λ _. read) (λ _. times_at read)
unfolding times_at
times_steps read = record { none = λ front bytes. refl; more = λ front n bytes. refl }

-- the loop goes on: the element that was read stands at the end of the front
pub goes_on : {A : Type 0} {step : List A → Reader A} {many : List A → ℕ → Reader (List A)} (s : Steps step many)
    (front : List A) (count i : ℕ) (bytes : List ℕ) (n : A) (after : List ℕ) (total : Read (List A)) → i < count
    → step front bytes ≡ Ok (n, after)
    → with_front front (many front (count - i) bytes) ≡ total
    → with_front (front ++ n ∷ []) (many (front ++ n ∷ []) (count - (i + 1)) after) ≡ total
goes_on {A} {step} {many} s front count i bytes n after total lt h so_far =
    let k : count - i ≡ suc (count - (i + 1)) = omega arith in
    let one : with_front front (many front (count - i) bytes)
    ≡ with_front (front ++ n ∷ []) (many (front ++ n ∷ []) (count - (i + 1)) after) =
    rw (k, s.more front (count - (i + 1)) bytes, h)
    (regroup front n (many (front ++ n ∷ []) (count - (i + 1)) after)) in
    sym one ∙ so_far

-- the loop ends by a fault: the whole reading fails by it
pub ends : {A : Type 0} {step : List A → Reader A} {many : List A → ℕ → Reader (List A)} (s : Steps step many)
    (e : ReadError) (front : List A) (count i : ℕ) (bytes : List ℕ) (total : Read (List A)) → i < count
    → FailsAs e (step front bytes)
    → with_front front (many front (count - i) bytes) ≡ total → FailsAs e total
ends s Memory front count i bytes total lt h so_far = tt
ends {A} {step} {many} s (Stopped f) front count i bytes total lt h so_far =
    let k : count - i ≡ suc (count - (i + 1)) = omega arith in
    let one : with_front front (many front (count - i) bytes) ≡ Err f =
    rw (k, s.more front (count - (i + 1)) bytes, h) refl in
    sym so_far ∙ one

-- the loop ends well: the front is the whole list
pub is_done : {A : Type 0} {step : List A → Reader A} {many : List A → ℕ → Reader (List A)} (s : Steps step many)
    (front : List A) (count i : ℕ) (bytes : List ℕ) (total : Read (List A)) → count ≤ i
    → with_front front (many front (count - i) bytes) ≡ total → total ≡ Ok (front, bytes)
is_done {A} {step} {many} s front count i bytes total le so_far =
    let k : count - i ≡ 0 = omega arith in
    let one : with_front front (many front (count - i) bytes) ≡ Ok (front, bytes) =
    rw (k, s.none front bytes) (ap (λ (ns : List A). gave ns bytes) (append-nil front)) in
    sym so_far ∙ one

-- Some were passed over, and so many are left.
pub record IsPassing {A : Type 0} (read : Reader A) (left : ℕ) (bytes : List ℕ) (total : Read (List A)) : Type 0 where
  pub front : List A
  pub so_far : with_front front (times_at read left bytes) ≡ total

-- the loop goes on: what is left to read is one less
pub passing_on : {A : Type 0} (read : Reader A) (count i : ℕ) (bytes : List ℕ) (n : A) (after : List ℕ)
    (total : Read (List A)) → i < count → read bytes ≡ Ok (n, after)
    → IsPassing read (count - i) bytes total → IsPassing read (count - (i + 1)) after total
passing_on read count i bytes n after total lt h p =
    record {
      front = p.front ++ n ∷ [];
      so_far = goes_on (times_steps read) p.front count i bytes n after total lt h p.so_far;
    }

-- the loop ends by a fault: the whole reading stops by it
pub passing_stops : {A : Type 0} (read : Reader A) (stop : Stop) (count i : ℕ) (bytes : List ℕ) (total : Read (List A))
    → i < count → read bytes ≡ Err stop → IsPassing read (count - i) bytes total → total ≡ Err stop
passing_stops read stop count i bytes total lt h p =
    ends (times_steps read) (Stopped stop) p.front count i bytes total lt h p.so_far

-- the loop ends well: the whole was read
pub passed_all : {A : Type 0} (read : Reader A) (count i : ℕ) (bytes : List ℕ) (total : Read (List A)) → count ≤ i
    → IsPassing read (count - i) bytes total
    → (y : List A × List ℕ) × (y.1 ≡ bytes) × (total ≡ Ok y)
passed_all read count i bytes total le p =
    ((p.front, bytes), refl, is_done (times_steps read) p.front count i bytes total le p.so_far)
