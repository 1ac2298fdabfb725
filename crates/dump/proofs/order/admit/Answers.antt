use Rattle.dump.specs.Order.{record_ground}
use Rattle.dump.proofs.PixelRecords.{admitted, near_acts, cover_acts, head_own, rank_own, place_own}
use Rattle.dump.proofs.order.admit.Goals as goal

pub returns-in-Head : goal.returns-in-Head
returns-in-Head c = rw (c.in-Head.is, head_own _ _ (rw c.in-Head.is at c.args.item.whole)) (rw c.sized.ensures at c.at_head.ensures)

pub returns-in-Rank : goal.returns-in-Rank
returns-in-Rank c = rw (c.in-Rank.is, rank_own _ _ (rw c.in-Rank.is at c.args.item.whole)) (rw c.sized-in-Rank.ensures at c.at_rank.ensures)

pub returns-in-Place : goal.returns-in-Place
returns-in-Place c = rw (c.in-Place.is, place_own _ _ (rw c.in-Place.is at c.args.item.whole)) (rw c.sized-in-Place.ensures at c.at_place.ensures)

pub returns-in-Near : goal.returns-in-Near
returns-in-Near c = rw c.in-Near.is (admitted 4 near_acts _ _ c.at_pixel.result (rw c.in-Near.is at c.args.item.whole) c.at_pixel.ensures)

pub returns-in-Cover : goal.returns-in-Cover
returns-in-Cover c = rw c.in-Cover.is (admitted 5 cover_acts _ _ c.at_pixel-in-Cover.result (rw c.in-Cover.is at c.args.item.whole) c.at_pixel-in-Cover.ensures)

pub returns-in-End : goal.returns-in-End
unfolding record_ground
returns-in-End c = rw c.in-End.is c.at_end.ensures
