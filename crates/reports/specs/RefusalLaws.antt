-- A refusal tells its number and its line, and is no other answer: on the examination of a pair, and for each operation.
-- Assumes nothing.
use Rattle.std.specs.Prelude.{◌≡◌, ℕ}
use Rattle.std.proofs.Common.{arith}
use Rattle.sheet.specs.Examine.{Design}
use Rattle.design.specs.Tabulate as table
use Rattle.mapper.specs.Map as map
use Rattle.network.specs.Network.{Network}
use Rattle.network.specs.Check as check
use Rattle.network.specs.Check.{refused_pair, pair}
use Rattle.blif.specs.Export as blif

-- ---- a pair
pub pair_number : {q q' l l' : ℕ} → refused_pair q l ≡ refused_pair q' l' → q ≡ q'
pair_number e = cc

pub pair_line : {q q' l l' : ℕ} → refused_pair q l ≡ refused_pair q' l' → l ≡ l'
pair_line e = cc

pub pair_refused : {q l : ℕ} {d : Design} {w : Network} → pair d w ≡ refused_pair q l → ⊥
pair_refused e =
    let z : ◌≡◌ {A = ℕ} 0 1 = cc in
    omega arith

-- ---- Table
pub table-number : {q q' l l' : ℕ} → table.refused_by q l ≡ table.refused_by q' l' → q ≡ q'
table-number e = cc

pub table_line : {q q' l l' : ℕ} → table.refused_by q l ≡ table.refused_by q' l' → l ≡ l'
table_line e = cc

pub table-refused : {n q l : ℕ} → table.written n ≡ table.refused_by q l → ⊥
table-refused e =
    let z : ◌≡◌ {A = ℕ} 0 1 = cc in
    omega arith

-- ---- Map
pub map-number : {q q' l l' : ℕ} → map.refused_by q l ≡ map.refused_by q' l' → q ≡ q'
map-number e = cc

pub map_line : {q q' l l' : ℕ} → map.refused_by q l ≡ map.refused_by q' l' → l ≡ l'
map_line e = cc

pub map-refused : {u n q l : ℕ} → map.mapped u n ≡ map.refused_by q l → ⊥
map-refused e =
    let z : ◌≡◌ {A = ℕ} 0 1 = cc in
    omega arith

-- ---- Check
pub check-number : {q q' l l' : ℕ} → check.refused_by q l ≡ check.refused_by q' l' → q ≡ q'
check-number e = cc

pub check_line : {q q' l l' : ℕ} → check.refused_by q l ≡ check.refused_by q' l' → l ≡ l'
check_line e = cc

pub same-refused : {q l : ℕ} → check.same ≡ check.refused_by q l → ⊥
same-refused e =
    let z : ◌≡◌ {A = ℕ} 0 1 = cc in
    omega arith

pub differs_refused : {o r q l : ℕ} → check.differs o r ≡ check.refused_by q l → ⊥
differs_refused e =
    let z : ◌≡◌ {A = ℕ} 0 1 = cc in
    omega arith

-- ---- Export
pub export-number : {q q' l l' : ℕ} → blif.refused_by q l ≡ blif.refused_by q' l' → q ≡ q'
export-number e = cc

pub export_line : {q q' l l' : ℕ} → blif.refused_by q l ≡ blif.refused_by q' l' → l ≡ l'
export_line e = cc

pub export-refused : {n q l : ℕ} → blif.written n ≡ blif.refused_by q l → ⊥
export-refused e =
    let z : ◌≡◌ {A = ℕ} 0 1 = cc in
    omega arith
