-- Every refusal of reading has a number from 1 to 11 and a place within the longest table: a section is only looked at when those before it
-- passed, so its counts are within their limits, and a record's number is below its count.
-- Assumes nothing.
use Prim.Native.Nat.{ℕ, zero, suc, ◌+◌, ◌≤◌, ◌<◌}
use mathlib.Core.Path.{◌≡◌, refl}
use mathlib.Core.Bool.{Bool, true, false}
use mathlib.Core.List.{List}
use native.Mathlib.Omega.{arith}
use lib.Dec.{leb}
use lib.ListN.{length}
use borrow.Author.Tests.{leb-false}
use Rattle.rules.specs.Reading.{Counts, Check, Fine, Fault, ◌and_then◌, unless, each, due, count_check, counts_of, counts_in, table_at, table_of, node_fault, lock_fault, access_fault, node_check, lock_check, resource_check, access_check, form_section, node_section, lock_section, resource_section, access_section, end_section, first_fault, concluded, read, Is, Refused}
use Rattle.rules.proofs.Reading.{then_left}
use Rattle.rules.proofs.Accepted.{count_limits}

-- A check whose fault, if it has one, has a number up to 11 and a place up to m.
abbrev pub Within : ℕ → Check → Type 0
Within m Fine = Unit {0}
Within m (Fault n p) = (n ≤ 11) × (p ≤ m)

-- The chain: the second check matters only where the first is fine.
then_within : (m : ℕ) (a d : Check) → Within m a → (a ≡ Fine → Within m d) → Within m (a and_then d)
unfolding ◌and_then◌
then_within m Fine d h f = f refl
then_within m (Fault n p) d h f = h

unless_within : (m : ℕ) (c : Bool) (n p : ℕ) → n ≤ 11 → p ≤ m → Within m (unless c n p)
unfolding unless
unless_within m true n p h l = tt
unless_within m false n p h l = (h, l)

-- What is due ends at e, so where it runs past the end the length is below e.
due_within : (m : ℕ) (b : List ℕ) (e : ℕ) → e ≤ m + 1 → Within m (due b e)
unfolding due unless
due_within m b e h = side (leb e (length b)) refl
  where
    side : (c : Bool) → leb e (length b) ≡ c → Within m (unless c 1 (length b))
    side true q = (unfold unless in tt)
    side false q = (unfold unless in (omega arith, omega (arith, leb-false e (length b) q)))

each_within : (m n : ℕ) (f : ℕ → Check) → ((i : ℕ) → i < n → Within m (f i)) → Within m (each n f)
unfolding each
each_within m zero f h = tt
each_within m (suc n) f h = then_within m (each n f) (f n) (each_within m n f (λ i l. h i (omega arith))) (λ q. h n (omega arith))

count_within : (m : ℕ) (b : List ℕ) (p least most : ℕ) → p ≤ m → Within m (count_check b p least most)
unfolding count_check
count_within m b p least most h =
    then_within m _ _ (due_within m b (p + 1) (omega arith)) (λ q. unless_within m _ 3 p (omega arith) h)

-- The longest table has 1,253 bytes.
abbrev pub longest : ℕ
longest = 1253

-- The records of a section, by the bounds of their counts.
module _ (c : Counts) (b : List ℕ) where
  node_within : (n : ℕ) → n < 128 → Within longest (node_check c b n)
  unfolding node_check node_fault
  node_within n h =
      then_within _ _ _ (due_within _ b _ (omega arith)) (λ q.
      then_within _ _ _ (unless_within _ _ 4 _ (omega arith) (omega arith)) (λ r.
      unless_within _ _ 5 _ (omega arith) (omega arith)))

  lock_within : (k : ℕ) → c.nodes ≤ 128 → k < 32 → Within longest (lock_check c b k)
  unfolding lock_check lock_fault counts_in table_at
  lock_within k hn h =
      then_within _ _ _ (due_within _ b _ (omega arith)) (λ q.
      then_within _ _ _ (unless_within _ _ 6 _ (omega arith) (omega arith)) (λ r.
      then_within _ _ _ (unless_within _ _ 5 _ (omega arith) (omega arith)) (λ v.
      unless_within _ _ 7 _ (omega arith) (omega arith))))

  access_within : (i : ℕ) → c.nodes ≤ 128 → c.locks ≤ 32 → c.resources ≤ 64 → i < 128 → Within longest (access_check c b i)
  unfolding access_check access_fault counts_in table_at
  access_within i hn hk hr h =
      then_within _ _ _ (due_within _ b _ (omega arith)) (λ q.
      then_within _ _ _ (unless_within _ _ 8 _ (omega arith) (omega arith)) (λ r.
      then_within _ _ _ (unless_within _ _ 9 _ (omega arith) (omega arith)) (λ v.
      unless_within _ _ 10 _ (omega arith) (omega arith))))

-- The sections, of the counts that stand in the bytes.
module _ (b : List ℕ) where
  form_section_lem : Within longest (form_section b)
  unfolding form_section
  form_section_lem = then_within _ _ _ (due_within _ b 1 (omega arith)) (λ q. unless_within _ _ 2 0 (omega arith) (omega arith))

  node_section_lem : Within longest (node_section (counts_of b) b)
  unfolding node_section counts_of
  node_section_lem =
      then_within _ _ _ (count_within _ b 1 1 128 (omega arith)) (λ q.
      each_within _ _ _ (λ n l. node_within _ b n (omega (arith, count_limits b 1 1 128 q))))

  lock_section_lem : (counts_of b).nodes ≤ 128 → Within longest (lock_section (counts_of b) b)
  unfolding lock_section counts_of
  lock_section_lem hn =
      then_within _ _ _ (count_within _ b _ 0 32 (omega arith)) (λ q.
      each_within _ _ _ (λ k l. lock_within _ b k hn (omega (arith, count_limits b _ 0 32 q))))

  resource_section_lem : (counts_of b).nodes ≤ 128 → (counts_of b).locks ≤ 32 → Within longest (resource_section (counts_of b) b)
  unfolding resource_section counts_of resource_check
  resource_section_lem hn hk =
      then_within _ _ _ (count_within _ b _ 0 64 (omega arith)) (λ q.
      each_within _ _ _ (λ r l. due_within _ b _ (omega (arith, count_limits b _ 0 64 q))))

  access_section_lem :
      (counts_of b).nodes ≤ 128 → (counts_of b).locks ≤ 32 → (counts_of b).resources ≤ 64 → Within longest (access_section (counts_of b) b)
  unfolding access_section counts_of
  access_section_lem hn hk hr =
      then_within _ _ _ (count_within _ b _ 0 128 (omega arith)) (λ q.
      each_within _ _ _ (λ i l. access_within _ b i hn hk hr (omega (arith, count_limits b _ 0 128 q))))

  end_section_lem :
      (counts_of b).nodes ≤ 128 → (counts_of b).locks ≤ 32 → (counts_of b).resources ≤ 64 → (counts_of b).accesses ≤ 128
      → Within longest (end_section (counts_of b) b)
  unfolding end_section
  end_section_lem hn hk hr ha = unless_within _ _ 11 _ (omega arith) (omega arith)

  -- What a section that is fine says of its count.
  node_limit : node_section (counts_of b) b ≡ Fine → (counts_of b).nodes ≤ 128
  unfolding node_section counts_of
  node_limit q = (count_limits b 1 1 128 (then_left _ _ q)).1

  lock_limit : lock_section (counts_of b) b ≡ Fine → (counts_of b).locks ≤ 32
  unfolding lock_section counts_of
  lock_limit q = (count_limits b _ 0 32 (then_left _ _ q)).1

  resource_limit : resource_section (counts_of b) b ≡ Fine → (counts_of b).resources ≤ 64
  unfolding resource_section counts_of
  resource_limit q = (count_limits b _ 0 64 (then_left _ _ q)).1

  access_limit : access_section (counts_of b) b ≡ Fine → (counts_of b).accesses ≤ 128
  unfolding access_section counts_of
  access_limit q = (count_limits b _ 0 128 (then_left _ _ q)).1

  first_within_lem : Within longest (first_fault b)
  unfolding first_fault
  first_within_lem =
      then_within _ _ _ form_section_lem (λ f.
      then_within _ _ _ node_section_lem (λ n. let hn = node_limit n in
      then_within _ _ _ (lock_section_lem hn) (λ k. let hk = lock_limit k in
      then_within _ _ _ (resource_section_lem hn hk) (λ r. let hr = resource_limit r in
      then_within _ _ _ (access_section_lem hn hk hr) (λ a. end_section_lem hn hk hr (access_limit a))))))

-- A refused table's number is from 1 to 11, its place at most 1,253.
pub refusal_within : (b : List ℕ) (n p : ℕ) → read b ≡ Refused n p → (n ≤ 11) × (p ≤ longest)
unfolding read
refusal_within b n p e = side (first_fault b) (first_within_lem b) e
  where
    side : (k : Check) → Within longest k → concluded k (table_of b) ≡ Refused n p → (n ≤ 11) × (p ≤ longest)
    side Fine h e = let w : Is (table_of b) ≡ Refused n p = (unfold concluded in e) in let z : ◌≡◌ {A = ℕ} 0 1 = cc in absurd (omega arith)
    side (Fault m q) h e =
        let w : Refused m q ≡ Refused n p = (unfold concluded in e) in
        let a : m ≡ n = cc in
        let c : q ≡ p = cc in omega arith
