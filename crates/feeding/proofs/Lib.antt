pub mod DrawOffLaws
pub mod FeedLaws
pub mod PlotLaws
pub mod PartsOfFeed
pub mod StrokePens
pub mod WhatMarksTell
