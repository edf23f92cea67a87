-- Assumes nothing.
use Rattle.std.proofs.Common.{[], ◌∷◌, refl}
use Rattle.text.specs.Words.{word}
use Rattle.text.specs.Letters.{piece}
use Rattle.text.proofs.Letters.{missing}
use Rattle.text.proofs.words.second.Goals as goal

pub returns-in-2 : goal.returns-in-2
unfolding piece word
returns-in-2 c = rw c.in-2.is

pub returns-in-3 : goal.returns-in-3
unfolding piece word
returns-in-3 c = rw c.in-3.is

pub returns-in-4 : goal.returns-in-4
unfolding piece word
returns-in-4 c = rw c.in-4.is

pub returns-in-5 : goal.returns-in-5
unfolding piece word
returns-in-5 c = rw c.in-5.is

pub returns-in-6 : goal.returns-in-6
unfolding piece word
returns-in-6 c = rw c.in-6.is

pub returns-in-7 : goal.returns-in-7
unfolding piece word
returns-in-7 c = rw c.in-7.is

pub returns-in-8 : goal.returns-in-8
unfolding piece word
returns-in-8 c = rw c.in-8.is

pub returns-in-9 : goal.returns-in-9
unfolding piece word
returns-in-9 c = rw c.in-9.is

pub returns-in-10 : goal.returns-in-10
unfolding piece word
returns-in-10 c = rw c.in-10.is

pub returns-in-11 : goal.returns-in-11
unfolding piece word
returns-in-11 c = rw c.in-11.is

pub returns-in-12 : goal.returns-in-12
unfolding piece word
returns-in-12 c = rw c.in-12.is

pub returns-in-13 : goal.returns-in-13
unfolding piece word
returns-in-13 c = rw c.in-13.is

pub returns-in-14 : goal.returns-in-14
unfolding piece word
returns-in-14 c = rw c.in-14.is

pub returns-in-15 : goal.returns-in-15
unfolding piece word
returns-in-15 c = rw c.in-15.is

pub returns-in-16 : goal.returns-in-16
unfolding piece word
returns-in-16 c = rw c.in-16.is

pub returns-in-17 : goal.returns-in-17
unfolding piece word
returns-in-17 c = rw c.in-17.is

pub returns-in-18 : goal.returns-in-18
unfolding piece word
returns-in-18 c = rw c.in-18.is

pub returns-in-19 : goal.returns-in-19
unfolding piece word
returns-in-19 c = rw c.in-19.is

pub returns-in-20 : goal.returns-in-20
unfolding piece word
returns-in-20 c = rw c.in-20.is

pub returns-in-21 : goal.returns-in-21
unfolding piece word
returns-in-21 c = rw c.in-21.is

pub returns-in-22 : goal.returns-in-22
unfolding piece word
returns-in-22 c = rw c.in-22.is

pub returns-in-23 : goal.returns-in-23
unfolding piece word
returns-in-23 c = rw c.in-23.is

pub returns-in-24 : goal.returns-in-24
unfolding piece word
returns-in-24 c = rw c.in-24.is

pub returns-in-25 : goal.returns-in-25
unfolding piece word
returns-in-25 c = rw c.in-25.is

pub returns-in-26 : goal.returns-in-26
unfolding piece word
returns-in-26 c = rw c.in-26.is

pub returns-in-27 : goal.returns-in-27
unfolding piece word
returns-in-27 c = rw c.in-27.is

pub returns-in-28 : goal.returns-in-28
unfolding piece word
returns-in-28 c = rw c.in-28.is

pub returns-in-29 : goal.returns-in-29
unfolding piece word
returns-in-29 c = rw c.in-29.is

pub returns-in-30 : goal.returns-in-30
unfolding piece word
returns-in-30 c = rw c.in-30.is

pub returns-in-31 : goal.returns-in-31
unfolding piece word
returns-in-31 c = rw c.in-31.is

pub returns-in-32 : goal.returns-in-32
unfolding piece word
returns-in-32 c = rw c.in-32.is

pub returns-in-33 : goal.returns-in-33
unfolding piece word
returns-in-33 c = rw c.in-33.is

pub returns-in-34 : goal.returns-in-34
unfolding piece word
returns-in-34 c = rw c.in-34.is

pub returns-in-35 : goal.returns-in-35
unfolding piece word
returns-in-35 c = rw c.in-35.is

pub returns-in-36 : goal.returns-in-36
unfolding piece word
returns-in-36 c = rw c.in-36.is

pub returns-in-37 : goal.returns-in-37
unfolding piece word
returns-in-37 c = rw c.in-37.is

pub returns-in-38 : goal.returns-in-38
unfolding piece word
returns-in-38 c = rw c.in-38.is

pub returns-in-39 : goal.returns-in-39
unfolding piece word
returns-in-39 c = rw c.in-39.is

pub returns-in-40 : goal.returns-in-40
unfolding piece word
returns-in-40 c = rw c.in-40.is

pub returns-in-41 : goal.returns-in-41
unfolding piece word
returns-in-41 c = rw c.in-41.is

pub returns-in-42 : goal.returns-in-42
unfolding piece word
returns-in-42 c = rw c.in-42.is

pub returns-in-43 : goal.returns-in-43
unfolding piece word
returns-in-43 c = rw c.in-43.is

pub returns-in-44 : goal.returns-in-44
unfolding piece word
returns-in-44 c = rw c.in-44.is

pub returns-in-47 : goal.returns-in-47
unfolding piece word
returns-in-47 c = rw c.in-47.is

pub returns-in-49 : goal.returns-in-49
unfolding piece word
returns-in-49 c = rw c.in-49.is

pub returns-in-50 : goal.returns-in-50
unfolding piece word
returns-in-50 c = rw c.in-50.is

pub returns-in-51 : goal.returns-in-51
unfolding piece word
returns-in-51 c = rw c.in-51.is

pub returns-in-52 : goal.returns-in-52
unfolding piece word
returns-in-52 c = rw c.in-52.is

pub returns-in-53 : goal.returns-in-53
unfolding piece word
returns-in-53 c = rw c.in-53.is

pub returns-in-54 : goal.returns-in-54
unfolding piece word
returns-in-54 c = rw c.in-54.is

pub returns-in-55 : goal.returns-in-55
unfolding piece word
returns-in-55 c = rw c.in-55.is

pub returns-in-56 : goal.returns-in-56
unfolding piece word
returns-in-56 c = rw c.in-56.is

pub returns-in-57 : goal.returns-in-57
unfolding piece word
returns-in-57 c = rw c.in-57.is

pub returns-in-58 : goal.returns-in-58
unfolding piece word
returns-in-58 c = rw c.in-58.is

pub returns-in-59 : goal.returns-in-59
unfolding piece word
returns-in-59 c = rw c.in-59.is

pub returns-in-60 : goal.returns-in-60
unfolding piece word
returns-in-60 c = rw c.in-60.is

pub returns-in-61 : goal.returns-in-61
unfolding piece word
returns-in-61 c = rw c.in-61.is

pub returns-in-62 : goal.returns-in-62
unfolding piece word
returns-in-62 c = rw c.in-62.is

pub returns-in-63 : goal.returns-in-63
unfolding piece word
returns-in-63 c = rw c.in-63.is

pub returns-in-64 : goal.returns-in-64
unfolding piece word
returns-in-64 c = rw c.in-64.is

pub returns-in-65 : goal.returns-in-65
unfolding piece word
returns-in-65 c = rw c.in-65.is

pub returns-in-66 : goal.returns-in-66
unfolding piece word
returns-in-66 c = rw c.in-66.is

pub returns-in-67 : goal.returns-in-67
unfolding piece word
returns-in-67 c = rw c.in-67.is

pub returns-in-68 : goal.returns-in-68
unfolding piece word
returns-in-68 c = rw c.in-68.is

pub returns-in-69 : goal.returns-in-69
unfolding piece word
returns-in-69 c = rw c.in-69.is

pub returns-in-70 : goal.returns-in-70
unfolding piece word
returns-in-70 c = rw c.in-70.is

pub returns-in-71 : goal.returns-in-71
unfolding piece word
returns-in-71 c = rw c.in-71.is

pub returns-in-72 : goal.returns-in-72
unfolding piece word
returns-in-72 c = rw c.in-72.is

pub returns-in-73 : goal.returns-in-73
unfolding piece word
returns-in-73 c = rw c.in-73.is

pub returns-in-74 : goal.returns-in-74
unfolding piece word
returns-in-74 c = rw c.in-74.is

pub returns-in-78 : goal.returns-in-78
unfolding piece word
returns-in-78 c = rw c.in-78.is

pub returns-in-79 : goal.returns-in-79
unfolding piece word
returns-in-79 c = rw c.in-79.is

pub returns-in-81 : goal.returns-in-81
unfolding piece word
returns-in-81 c = rw c.in-81.is

pub returns-in-83 : goal.returns-in-83
unfolding piece word
returns-in-83 c = rw c.in-83.is

pub returns-in-85 : goal.returns-in-85
unfolding piece word
returns-in-85 c = rw c.in-85.is

pub returns-in-89 : goal.returns-in-89
unfolding piece word
returns-in-89 c = rw c.in-89.is

pub returns-in-96 : goal.returns-in-96
unfolding piece word
returns-in-96 c = rw c.in-96.is

pub returns-in-98 : goal.returns-in-98
unfolding piece word
returns-in-98 c = rw c.in-98.is

pub returns-in-100 : goal.returns-in-100
unfolding piece word
returns-in-100 c = rw c.in-100.is

pub returns-in-102 : goal.returns-in-102
unfolding piece word
returns-in-102 c = rw c.in-102.is

pub returns-in-103 : goal.returns-in-103
unfolding piece word
returns-in-103 c = rw c.in-103.is

pub returns-in-104 : goal.returns-in-104
unfolding piece word
returns-in-104 c = rw c.in-104.is

pub returns-in-105 : goal.returns-in-105
unfolding piece word
returns-in-105 c = rw c.in-105.is

pub returns-in-109 : goal.returns-in-109
unfolding piece word
returns-in-109 c = rw c.in-109.is

pub returns-in-115 : goal.returns-in-115
unfolding piece word
returns-in-115 c = rw c.in-115.is

pub returns-in-116 : goal.returns-in-116
unfolding piece word
returns-in-116 c = rw c.in-116.is

pub returns-in-117 : goal.returns-in-117
unfolding piece word
returns-in-117 c = rw c.in-117.is

pub returns-in-118 : goal.returns-in-118
unfolding piece word
returns-in-118 c = rw c.in-118.is

pub returns-in-119 : goal.returns-in-119
unfolding piece word
returns-in-119 c = rw c.in-119.is

pub returns-in-120 : goal.returns-in-120
unfolding piece word
returns-in-120 c = rw c.in-120.is

pub returns-in-125 : goal.returns-in-125
unfolding piece word
returns-in-125 c = rw c.in-125.is

pub returns-in-128 : goal.returns-in-128
unfolding piece word
returns-in-128 c = rw c.in-128.is

pub returns-in-136 : goal.returns-in-136
unfolding piece word
returns-in-136 c = rw c.in-136.is

pub returns-in-137 : goal.returns-in-137
unfolding piece word
returns-in-137 c = rw c.in-137.is

pub returns-in-138 : goal.returns-in-138
unfolding piece word
returns-in-138 c = rw c.in-138.is

pub returns-in-139 : goal.returns-in-139
unfolding piece word
returns-in-139 c = rw c.in-139.is

pub returns-in-140 : goal.returns-in-140
unfolding piece word
returns-in-140 c = rw c.in-140.is

pub returns-in-141 : goal.returns-in-141
unfolding piece word
returns-in-141 c = rw c.in-141.is

pub returns-in_default : goal.returns-in_default
unfolding piece word
returns-in_default c = missing 1 (141 ∷ 140 ∷ 139 ∷ 138 ∷ 137 ∷ 136 ∷ 128 ∷ 125 ∷ 120 ∷ 119 ∷ 118 ∷ 117 ∷ 116 ∷ 115 ∷ 109 ∷ 105 ∷ 104 ∷ 103 ∷ 102 ∷ 100 ∷ 98 ∷ 96 ∷ 89 ∷ 85 ∷ 83 ∷ 81 ∷ 79 ∷ 78 ∷ 74 ∷ 73 ∷ 72 ∷ 71 ∷ 70 ∷ 69 ∷ 68 ∷ 67 ∷ 66 ∷ 65 ∷ 64 ∷ 63 ∷ 62 ∷ 61 ∷ 60 ∷ 59 ∷ 58 ∷ 57 ∷ 56 ∷ 55 ∷ 54 ∷ 53 ∷ 52 ∷ 51 ∷ 50 ∷ 49 ∷ 47 ∷ 44 ∷ 43 ∷ 42 ∷ 41 ∷ 40 ∷ 39 ∷ 38 ∷ 37 ∷ 36 ∷ 35 ∷ 34 ∷ 33 ∷ 32 ∷ 31 ∷ 30 ∷ 29 ∷ 28 ∷ 27 ∷ 26 ∷ 25 ∷ 24 ∷ 23 ∷ 22 ∷ 21 ∷ 20 ∷ 19 ∷ 18 ∷ 17 ∷ 16 ∷ 15 ∷ 14 ∷ 13 ∷ 12 ∷ 11 ∷ 10 ∷ 9 ∷ 8 ∷ 7 ∷ 6 ∷ 5 ∷ 4 ∷ 3 ∷ 2 ∷ []) refl c.args.w c.in_default.in_default-own.rest
